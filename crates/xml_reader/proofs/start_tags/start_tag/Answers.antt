use Rattle.std.proofs.lemmas.Result.{err_from_is_err_and}
use Rattle.xml_tokens.specs.Laws.Letters.{name_run}
use Rattle.xml_reader.specs.Laws.StartTags.{element_unfit, element_rest, kept_set, kept_same, kept_less, placed_push}
use lib.Seq.{get_or-set_same}
use native.Mathlib.Omega.{arith}
use Prim.Native.Nat.{◌-◌}
use borrow.Author.Rules.{rules}
use Rattle.xml_reader.proofs.start_tags.start_tag.Goals as goal

pub overflow_cast-names : goal.overflow_cast-names
overflow_cast-names c =
    let pre = c.requires in
    omega (arith, pre.0.inside, pre.2.short)

pub spelled_name-requires : goal.spelled_name-requires
spelled_name-requires c = let pre = c.requires in (pre.0.inside, pre.0.starts)

pub attributes-requires : goal.attributes-requires
attributes-requires c =
    let pre = c.requires in
    let f = c.in_ok-name.ensures in (
      (name_run f).0.inside,
      search rules,
      placed_push _ _ _ _ pre.2 (omega (arith, pre.0.inside)) (omega (arith, pre.3)),
      search rules,
    )

pub returns-in_err-name : goal.returns-in_err-name
returns-in_err-name c =
    let a = c.args in
    let pre = c.requires in
    let p = err_from_is_err_and c.from_residual.result c.from_residual.ensures.1 in (
      rw (p.1, p.2) (element_unfit _ _ _ c.in_err-name.ensures),
      kept_set _ _ _ _ _ (kept_same _ _) (search rules),
      omega (arith, pre.0.not_first, get_or-set_same a.names.now a.from.depth (a.from.cursor.at - 1) 0 (omega (arith, pre.3))),
    )

pub returns : goal.returns
returns c =
    let a = c.args in
    let pre = c.requires in (
      element_rest _ _ _ c.in_ok-name.ensures c.attributes.ensures.0,
      kept_less _ _ _ _ _ (kept_set _ _ _ a.from.depth (a.from.cursor.at - 1) (kept_same _ _) (search rules)) c.attributes.ensures.1
          (omega arith),
      omega (
        arith,
        pre.0.not_first,
        c.attributes.ensures.1.kept a.from.depth (omega arith),
        get_or-set_same a.names.now a.from.depth (a.from.cursor.at - 1) 0 (omega (arith, pre.3)),
      ),
    )
