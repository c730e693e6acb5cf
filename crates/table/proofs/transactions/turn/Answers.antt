use Rattle.table.specs.Laws.Opens.{turned_left}
use borrow.Author.Rules.{rules}
use Rattle.table.proofs.transactions.turn.Goals as goal

pub returns : goal.returns
returns c =
    let word = c.word-w in
    let turned = c.turned in
    let set_word = c.set_word in
    turned_left _ _ _ _ _ set_word.ensures word.ensures turned.ensures (search rules) (search rules) (search rules)
