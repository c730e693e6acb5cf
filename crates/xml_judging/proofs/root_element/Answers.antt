use mathlib.Core.Path.{◌∙◌}
use native.Mathlib.Omega.{arith}
use borrow.Author.Rules.{rules}
use Rattle.xml_judging.specs.Laws.Element.{root_broken, root_empty, root_open, emptied_inside, opened_inside}
use Rattle.xml_judging.proofs.root_element.Goals as goal

pub returns-in_err-read : goal.returns-in_err-read
returns-in_err-read c = search (rules, root_broken)

pub behind_root-requires : goal.behind_root-requires
behind_root-requires c = emptied_inside (rw c.in-Emptied.is at c.in_ok-read.ensures.0)

pub root_content-requires : goal.root_content-requires
root_content-requires c =
    let pre = c.requires in
    let e = c.in_ok-read.ensures in
    opened_inside c.start_tag.new.names (e.1.as_long ∙ search rules) e.2 (omega (arith, pre.0.inside)) pre.2 pre.1
    (rw c.in-Opened.is at e.0)

pub returns-in-Emptied : goal.returns-in-Emptied
returns-in-Emptied c = root_empty _ _ _ _ (rw c.in-Emptied.is at c.in_ok-read.ensures.0) c.behind_root.ensures

pub returns-in-Opened : goal.returns-in-Opened
returns-in-Opened c =
    let e = c.in_ok-read.ensures in
    root_open _ _ _ c.start_tag.new.names _ e.2 (rw c.in-Opened.is at e.0) c.root_content.ensures
