use Rattle.std.proofs.Common.{rules}
use Rattle.xml_text.specs.Rows.{prolog}
use Rattle.xml_text.specs.Lending.{front, room, behind}
use Rattle.xml_text.proofs.markup.put_prolog.Goals as goal

pub put-at-requires : goal.put-at-requires
unfolding prolog
put-at-requires c = search (front, rules)

pub put-requires : goal.put-requires
unfolding prolog
put-requires c = search (room, rules)

pub returns : goal.returns
unfolding prolog
returns c = search (behind, rules)
