-- The causes of a refusal, by their numbers: document 01, "Refused calls", and document 02. CauseNumbers.antt says which number each cause of
-- src/causes.rt has.
use Rattle.std.specs.Prelude.{ℕ, List, [], ◌∷◌}

-- transaction number not 1 to 16
abbrev pub not_a_transaction : ℕ
not_a_transaction = 1

-- begin of an open transaction
abbrev pub already_open : ℕ
already_open = 2

-- other call, transaction not open
abbrev pub not_open : ℕ
not_open = 3

-- load: not of the grammar
abbrev pub not_of_grammar : ℕ
not_of_grammar = 4

-- load: a 33rd content byte
abbrev pub content_over_limit : ℕ
content_over_limit = 5

-- load: a 1,025th node
abbrev pub nodes_over_limit : ℕ
nodes_over_limit = 6

-- no node so numbered, or the caller deleted it or an ancestor
abbrev pub no_such_node : ℕ
no_such_node = 7

-- R, U or D on the document; I where the parent's kind never takes such a child, or the kind is not 2 to 4
abbrev pub kind_not_allowed : ℕ
kind_not_allowed = 8

-- content or name not allowed
abbrev pub content_not_allowed : ℕ
content_not_allowed = 9

-- I: number held by any node
abbrev pub held_number : ℕ
held_number = 10

-- I: k is 0 or past children + 1, or the children rule would break
abbrev pub place_not_allowed : ℕ
place_not_allowed = 11

-- I: 1,024 nodes held
abbrev pub no_more_nodes : ℕ
no_more_nodes = 12

-- lent buffer too short for the answer; state bytes too short or not of the form
abbrev pub short_buffer : ℕ
short_buffer = 13

-- write: not expressible
abbrev pub not_expressible : ℕ
not_expressible = 14

-- load while a transaction is open
abbrev pub open_at_load : ℕ
open_at_load = 15

-- a wait that would make a ring of transactions each waiting for the next: document 02, A.6
abbrev pub deadlock : ℕ
deadlock = 17

-- a commit after the 1,000,000th since the last granted start or load: document 02, A.7
abbrev pub no_more_commits : ℕ
no_more_commits = 18

-- a ninth part, or a close or undo without a part: document 02, A.8
abbrev pub part_not_allowed : ℕ
part_not_allowed = 19

-- all that a call can be refused by
abbrev pub causes : List ℕ
causes =
    not_a_transaction ∷ already_open ∷ not_open ∷ not_of_grammar ∷ content_over_limit ∷ nodes_over_limit ∷ no_such_node ∷ kind_not_allowed
    ∷ content_not_allowed
    ∷ held_number ∷ place_not_allowed ∷ no_more_nodes ∷ short_buffer ∷ not_expressible ∷ open_at_load ∷ deadlock
    ∷ no_more_commits ∷ part_not_allowed ∷ []
