use mathlib.Core.Path.{sym, ◌∙◌}
use borrow.Author.Rules.{rules}
use Rattle.xml_judging.specs.Laws.Whole.{no_root_is, root_unspelled, root_is, root_named}
use Rattle.xml_judging.proofs.unlimited.Goals as goal

pub returns-in_err-c : goal.returns-in_err-c
returns-in_err-c c = search (rules, no_root_is)

pub bounds-s-at : goal.bounds-s-at
bounds-s-at c = (root_named c.in_ok-c.ensures).inside

pub returns-then-not-begins : goal.returns-then-not-begins
returns-then-not-begins c =
    rw c.new.ensures (root_unspelled _ _ c.in_ok-c.ensures (sym c.begins.ensures ∙ c.if-not-begins.true))

pub root_element-requires : goal.root_element-requires
root_element-requires c = (root_named c.in_ok-c.ensures, search rules, search rules)

pub returns : goal.returns
returns c =
    root_is _ _ _ (search rules) c.in_ok-c.ensures (sym c.begins.ensures ∙ c.if-not-begins.false) c.root_element.ensures
