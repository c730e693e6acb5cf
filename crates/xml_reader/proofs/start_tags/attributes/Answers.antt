use mathlib.Core.Path.{◌∙◌}
use native.Mathlib.Omega.{arith}
use borrow.Author.Rules.{rules}
use Rattle.std.proofs.lemmas.Result.{err_from_is_err_and}
use Rattle.byte_strings.specs.Laws.Sorted.{increasing_none}
use Rattle.xml_reader.specs.Laws.StartTags.{placed_at, attributes_start, attributes_wrong, attributes_open}
use Rattle.xml_reader.specs.Laws.StartTags.{attributes_empty, attributes_bad, attributes_turn, attribute_here, attribute_behind}
use Rattle.xml_reader.specs.Laws.StartTags.{attribute_entered, kept_same, kept_less}
use Rattle.xml_reader.proofs.start_tags.attributes.Goals as goal

pub loop-behind-init : goal.loop-behind-init
loop-behind-init c = record {
  further = search rules;
  inside = search rules;
  fewer = search rules;
  room = search rules;
  placed = placed_at _ _ _ _ (omega arith) c.requires.2;
  kept = kept_same _ _;
  reads = attributes_start _ _ _ _ _;
  long = c.requires.3;
  sorted = increasing_none _;
}

pub item-requires : goal.item-requires
item-requires c = c.loop-behind.invariant.inside

pub returns-in_err-behind : goal.returns-in_err-behind
returns-in_err-behind c =
    let i = c.loop-behind.invariant in
    let p = err_from_is_err_and c.from_residual.result c.from_residual.ensures.1 in
    (rw (p.1, p.2) (attributes_wrong _ _ _ _ _ _ _ _ i.reads i.further i.fewer c.in_err-behind.ensures), i.kept)

pub returns-in-Open : goal.returns-in-Open
returns-in-Open c =
    let i = c.loop-behind.invariant in
    (attributes_open _ _ _ _ _ _ _ _ i.reads i.further i.fewer (rw c.in-Open.is at c.in_ok-behind.ensures), i.kept)

pub returns-in-Empty : goal.returns-in-Empty
returns-in-Empty c =
    let i = c.loop-behind.invariant in
    (attributes_empty _ _ _ _ _ _ _ _ i.reads i.further i.fewer (rw c.in-Empty.is at c.in_ok-behind.ensures), i.kept)

pub attribute-requires : goal.attribute-requires
attribute-requires c =
    let i = c.loop-behind.invariant in
    ((attribute_here (rw c.in-Attribute.is at c.in_ok-behind.ensures)).0, i.room, i.placed, i.sorted, i.long)

pub returns-in_err-read-in-Attribute : goal.returns-in_err-read-in-Attribute
returns-in_err-read-in-Attribute c =
    let i = c.loop-behind.invariant in
    let r = c.from_residual-in_err-read-in-Attribute in
    let p = err_from_is_err_and r.result r.ensures.1 in (
      rw (p.1, p.2)
          (attributes_bad _ _ _ _ _ _ _ _ i.reads i.further i.fewer (rw c.in-Attribute.is at c.in_ok-behind.ensures)
          c.in_err-read-in-Attribute.ensures),
      kept_less _ _ _ _ _ i.kept c.attribute.ensures.kept (omega arith),
    )

pub loop-behind-smaller : goal.loop-behind-smaller
loop-behind-smaller c =
    let i = c.loop-behind.invariant in
    let item = rw c.in-Attribute.is at c.in_ok-behind.ensures in
    let a = attribute_behind _ _ _ _ _ _ _ _ i.reads i.further i.fewer item c.in_ok-read-in-Attribute.ensures in
    omega (arith, a.0, a.1, a.2)

pub loop-behind-preserved : goal.loop-behind-preserved
loop-behind-preserved c =
    let i = c.loop-behind.invariant in
    let item = rw c.in-Attribute.is at c.in_ok-behind.ensures in
    let read = c.in_ok-read-in-Attribute.ensures in
    let a = attribute_behind _ _ _ _ _ _ _ _ i.reads i.further i.fewer item read in
    let e = attribute_entered _ _ _ _ _ _ _ _ i.reads i.further i.fewer item read in record {
      further = omega (arith, a.0, a.1);
      inside = a.2;
      fewer = omega (arith, a.3);
      room = omega (arith, a.3);
      placed = placed_at _ _ _ _ (omega arith) e.placed;
      kept = kept_less _ _ _ _ _ i.kept c.attribute.ensures.kept (omega arith);
      reads = attributes_turn _ _ _ _ _ _ _ _ i.reads i.further i.fewer item read;
      long = c.attribute.ensures.kept.as_long ∙ i.long;
      sorted = e.added.sorted;
    }
