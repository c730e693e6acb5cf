-- Which steps are granted beside a step of another transaction: document 01, "Lock modes" and "Steps". One table, one theorem.
use Rattle.std.specs.Prelude.{ℕ, ◌≡◌, refl, cond, List, [], ◌∷◌, map, eqb}
use Prim.Native.String.{String}
use Rattle.tree.specs.Text.{bytes}
use Rattle.tree.specs.Lists.{keep}
use Rattle.tree.specs.Forest.{rows, amend, view, place, put}
use Rattle.tree.specs.Characters.{within, utf8, characters}
use Rattle.tree.specs.Content.{spells_name, spells_text, is_name, is_text, allowed, takes, attributes_first, children_rule}
use Rattle.tree.specs.Content.{insert_at}
use Rattle.tree.specs.Document.{node_0_alone, lines, select, ruled, legal}
use Rattle.tree.specs.Steps.{Step, T, C, R, U, D, I, TT, RR, UU, placed}
use Rattle.tree.specs.Examples.{tree_E}
use Rattle.locks.specs.Modes.{clash}
use Rattle.locks.specs.Needs.{locks}
use Rattle.protocol.specs.State.{State, start_state, nodes, callers_document, document_of, grant, commit_tree, abort_tree, tree_of}
use Rattle.protocol.specs.Rings.{in_ring}
use Rattle.protocol.specs.Lent.{first_lent, second_lent}
use Rattle.protocol.specs.Calls.{loadable, Call, step, Outcome, granted, written, waits, refused, refused_at, wait_set, judged, next}
use Rattle.protocol.specs.History.{state_after}
use Rattle.protocol.specs.Examples.{opening}

-- `+` granted, `-` a wait for t1, `?` anything else
abbrev sign : Outcome → ℕ
sign (granted v) = 43
sign (written d) = 63
sign (waits w) = cond (eqb w 1) 45 63
sign (refused c) = 63
sign (refused_at c o) = 63

abbrev does : ℕ → Step → Call
does t s = step t s (record { first = 64; second = 1024 })

-- t1 does a, then t2 does b
abbrev beside : State → Step → Step → ℕ
beside M a b = sign (next (does 2 b) (next (does 1 a) M).state).outcome

-- a UU that renames nothing, on n
abbrev uu : ℕ → Step
uu n = UU n (bytes "q") (bytes "z")

abbrev columns : List Step
columns = T 4 ∷ C 1 1 ∷ C 4 1 ∷ R 1 ∷ R 4 ∷ R 5 ∷ U 1 (bytes "up") ∷ U 4 (bytes "pc") ∷ U 5 (bytes "7") ∷ D 1 ∷ D 4 ∷ D 5 ∷ D 6
    ∷ I 8 2 (bytes "x") 1 4 ∷ I 8 2 (bytes "x") 4 1 ∷ TT 0 ∷ TT 4 ∷ RR 0 ∷ RR 4 ∷ uu 0 ∷ uu 4 ∷ uu 5 ∷ []

abbrev table : List (Step × String)
table =
    (T 5, "+++++++++---++++++++++") ∷
    (C 1 1, "+++++++++--+--++++++++") ∷
    (C 4 1, "+++++++++---++-+++++++") ∷
    (R 4, "+++++++-+--++++++++--+") ∷
    (U 4 (bytes "pace"), "++++-++-+--++++++----+") ∷
    (D 4, "---+--+-----+---------") ∷
    (I 9 2 (bytes "x") 1 4, "+-+++++++--+--+-+-+-++") ∷
    (I 9 2 (bytes "x") 4 1, "++-++++++---++-------+") ∷
    (TT 4, "+++++++++---++-+++++++") ∷
    (RR 4, "+++++++-----++-++++---") ∷
    (uu 4, "++++--+-----++-++-----") ∷
    (RR 0, "++++++---------++++---") ∷
    (TT 0, "+++++++++------+++++++") ∷
    (uu 0, "+++------------++-----") ∷ []

pub beside_holds : map (λ r. map (beside (state_after start_state opening) r.0) columns) table ≡ map (λ r. bytes r.1) table
unfolding tree_E state_after next judged wait_set in_ring loadable first_lent second_lent
    nodes callers_document document_of grant commit_tree abort_tree tree_of node_0_alone clash locks
    legal ruled lines select rows keep amend view place put within utf8 characters spells_name spells_text is_name is_text allowed takes
    attributes_first
    children_rule
    insert_at placed
beside_holds = refl
