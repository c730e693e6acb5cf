-- The order of causes: document 01, "Refused calls": "Order: 1, 2 or 3, 7, 8, 9, 10, wait, 11, 12, 13. Load: 15, then the earliest offset".
-- Two tables, of which `refusals_hold` (proofs/Refusals) is the theorem; where a line says "before", both causes apply to the call. Load's
-- offsets are in xml/proofs/Laws/Examples.
use Rattle.std.specs.Prelude.{ℕ, zero, suc, List, [], ◌∷◌, ◌++◌, length}
use Rattle.tree.specs.Text.{bytes}
use Rattle.tree.specs.Forest.{nil, node}
use Rattle.tree.specs.Document.{Document}
use Rattle.tree.specs.Steps.{Step, T, C, R, U, D, I, TT, RR, UU, done, child_is, none, content_is, numbers_are, cells_are, how_many}
use Rattle.protocol.specs.Calls.{unreadable, load, begin}
use Rattle.protocol.specs.Calls.{commit, abort, step, Outcome, granted, waits, refused, refused_at}
use Rattle.protocol.specs.Examples.{Item, gives, fills, does}

-- t does s with one lent buffer, which holds these bytes before and after; with two lent buffers of these lengths
abbrev lends : ℕ → Step → List ℕ → Outcome → List ℕ → Item
lends t s before o after = fills (step t s (record { first = length before; second = 0 })) o before after

abbrev lends_two : ℕ → ℕ → ℕ → Step → Outcome → Item
lends_two a b t s o = gives (step t s (record { first = a; second = b })) o

-- from E, with t1 and t2 open
abbrev pub refusals : List (List Item)
refusals =
    -- 1 before 3: what is not 1 to 16 is not open
    (gives (begin 0) (refused 1)
    ∷ gives (begin 17) (refused 1)
    ∷ gives (commit 17) (refused 1)
    ∷ gives (abort 0) (refused 1)
    ∷ does 17 (T 4) (refused 1)
    -- 2
    ∷ gives (begin 2) (refused 2)
    -- 3
    ∷ gives (commit 16) (refused 3)
    ∷ gives (abort 16) (refused 3)
    -- 3 before 7
    ∷ does 16 (T 9) (refused 3) ∷ []) ∷
    -- 7 before 8: no node takes a child of kind 5; before 9; before 10
    (does 1 (I 9 5 (bytes "x") 9 1) (refused 7)
    ∷ does 1 (U 9 (bytes "")) (refused 7)
    ∷ does 1 (UU 9 (bytes "") (bytes "x")) (refused 7)
    ∷ does 1 (I 6 2 (bytes "x") 9 1) (refused 7) ∷ []) ∷
    -- 7 before 8: a text takes no child, and this one went with its element
    (does 1 (D 4) (granted done)
    ∷ does 1 (I 9 2 (bytes "x") 5 1) (refused 7) ∷ []) ∷
    -- 8 before 9
    (does 1 (U 0 (bytes "x")) (refused 8)
    ∷ does 1 (I 9 3 (bytes "") 0 1) (refused 8)
    -- 8 before 10
    ∷ does 1 (I 6 4 (bytes "x") 5 1) (refused 8)
    -- 9 before 10
    ∷ does 1 (I 6 2 (bytes "6") 1 4) (refused 9)
    -- 10 before 11
    ∷ does 1 (I 6 2 (bytes "x") 1 9) (refused 10)
    -- document 01: 32 bytes of text granted, 33 give 9
    ∷ does 1 (U 5 (bytes "12345678901234567890123456789012")) (granted done)
    ∷ does 1 (U 5 (bytes "123456789012345678901234567890123")) (refused 9) ∷ []) ∷
    -- 8, 9 and 10 before a wait
    (does 2 (D 1) (granted done)
    ∷ does 1 (RR 0) (waits 2)
    ∷ does 1 (D 0) (refused 8)
    ∷ does 1 (U 5 (bytes "")) (refused 9)
    ∷ does 1 (I 6 2 (bytes "x") 1 4) (refused 10)
    ∷ does 1 (I 9 2 (bytes "x") 1 4) (waits 2)
    -- a wait before 11
    ∷ does 1 (I 9 2 (bytes "x") 1 9) (waits 2)
    -- a wait before 13
    ∷ lends 1 (R 5) [] (waits 2) [] ∷ []) ∷
    -- 13: one byte less than the answer takes, in either buffer; "bytes of a lent buffer behind the answer keep their values"
    (lends 1 (R 4) (bytes "----") (refused 13) (bytes "----")
    ∷ lends 1 (R 4) (bytes "-------") (granted (content_is (bytes "speed"))) (bytes "speed--")
    ∷ lends 1 (TT 4) (bytes "-------") (refused 13) (bytes "-------")
    ∷ lends 1 (TT 4) (bytes "---------") (granted (numbers_are (4 ∷ 5 ∷ []))) (4 ∷ 0 ∷ 0 ∷ 0 ∷ 5 ∷ 0 ∷ 0 ∷ 0 ∷ bytes "-")
    ∷ lends_two 7 66 1 (RR 4) (refused 13)
    ∷ lends_two 8 65 1 (RR 4) (refused 13)
    ∷ lends_two 8 66 1 (RR 4) (granted (cells_are ((4, bytes "speed") ∷ (5, bytes "6") ∷ []))) ∷ []) ∷
    -- "left as it was: everything": a step that is refused or waits takes no lock and leaves the lent buffer
    (does 1 (I 9 2 (bytes "x") 1 9) (refused 11)
    ∷ lends 1 (R 5) [] (refused 13) []
    ∷ does 2 (D 6) (granted done)
    ∷ does 2 (U 5 (bytes "7")) (granted done)
    ∷ lends 1 (R 5) (bytes "-") (waits 2) (bytes "-")
    ∷ gives (abort 2) (granted done)
    ∷ gives (begin 2) (granted done)
    ∷ does 2 (U 5 (bytes "8")) (granted done) ∷ []) ∷
    -- 9 for either name of UU, even where nothing would be renamed; what has no element has none so named
    (does 1 (UU 1 (bytes "") (bytes "x")) (refused 9)
    ∷ does 1 (UU 1 (bytes "x") (bytes "6")) (refused 9)
    ∷ does 1 (UU 5 (bytes "x") (bytes "y")) (granted (how_many 0))
    -- only elements are renamed, and only in the subtree
    ∷ does 1 (UU 2 (bytes "rope") (bytes "y")) (granted (how_many 0))
    ∷ does 1 (U 5 (bytes "speed")) (granted done)
    ∷ does 1 (UU 4 (bytes "ramp") (bytes "y")) (granted (how_many 0))
    ∷ does 1 (UU 1 (bytes "speed") (bytes "pace")) (granted (how_many 1))
    -- "for C a k of 0 .. gives none"
    ∷ does 1 (C 1 0) (granted none) ∷ []) ∷
    -- a node that another open transaction inserted is not 7: a wait, after 8, 9 and 10
    (does 2 (I 9 4 (bytes "x") 6 1) (granted done)
    ∷ does 1 (R 9) (waits 2)
    ∷ does 1 (I 8 2 (bytes "x") 9 1) (refused 8)
    ∷ does 1 (U 9 (bytes "")) (refused 9)
    ∷ does 1 (I 9 2 (bytes "x") 1 4) (refused 10) ∷ []) ∷
    -- 11 goes by the children that the caller sees: a new root in place of the one that it deleted, and no second one
    (does 1 (D 1) (granted done)
    ∷ does 1 (I 8 2 (bytes "x") 0 1) (granted done)
    ∷ does 1 (I 9 2 (bytes "x") 0 2) (refused 11) ∷ []) ∷
    -- 8 by the kinds alone; 11: a second text of an attribute, an attribute behind another kind
    (does 1 (I 9 4 (bytes "x") 0 1) (refused 8)
    ∷ does 1 (I 9 4 (bytes "x") 2 1) (refused 11)
    ∷ does 1 (I 9 4 (bytes "x") 2 2) (refused 11)
    ∷ does 1 (I 9 3 (bytes "a") 1 3) (refused 11)
    ∷ does 1 (I 9 3 (bytes "a") 1 2) (granted done)
    ∷ does 1 (I 8 4 (bytes "x") 9 1) (granted done)
    ∷ does 1 (I 7 4 (bytes "x") 1 5) (granted done) ∷ []) ∷
    -- 9: what a name and a text may have, and how many bytes
    (does 1 (U 4 (bytes "_A-z.9")) (granted done)
    ∷ does 1 (U 4 (bytes "Zabcdefghijklmnopqrstuvwxyz01234")) (granted done)
    ∷ does 1 (U 4 (bytes "Zabcdefghijklmnopqrstuvwxyz012345")) (refused 9)
    ∷ does 1 (U 4 (bytes "-a")) (refused 9)
    ∷ does 1 (U 2 (bytes "6")) (refused 9)
    ∷ does 1 (U 5 (9 ∷ 10 ∷ 32 ∷ 126 ∷ [])) (granted done)
    ∷ does 1 (U 5 (13 ∷ [])) (refused 9)
    -- A.2: ü, and a combining character behind it, in names; a combining character first, a colon; UU too
    ∷ does 1 (U 4 (84 ∷ 0xC3 ∷ 0xBC ∷ 0xCC ∷ 0x88 ∷ [])) (granted done)
    ∷ does 1 (U 4 (0xCC ∷ 0x88 ∷ [])) (refused 9)
    ∷ does 1 (U 4 (bytes "a:b")) (refused 9)
    ∷ does 1 (UU 1 (84 ∷ 0xC3 ∷ 0xBC ∷ 0xCC ∷ 0x88 ∷ []) (0xC3 ∷ 0x9C ∷ [])) (granted (how_many 1))
    ∷ does 1 (UU 1 (0xC3 ∷ 0x9C ∷ []) (0xC3 ∷ [])) (refused 9)
    -- in texts 127, and U+10FFFF, the last character; broken UTF-8: a stray byte, a long form, a surrogate, U+110000, a character cut
    ∷ does 1 (U 5 (127 ∷ 0xF4 ∷ 0x8F ∷ 0xBF ∷ 0xBF ∷ [])) (granted done)
    ∷ does 1 (U 5 (0x80 ∷ [])) (refused 9)
    ∷ does 1 (U 5 (0xC0 ∷ 0xAF ∷ [])) (refused 9)
    ∷ does 1 (U 5 (0xED ∷ 0xA0 ∷ 0x80 ∷ [])) (refused 9)
    ∷ does 1 (U 5 (0xF4 ∷ 0x90 ∷ 0x80 ∷ 0x80 ∷ [])) (refused 9)
    ∷ does 1 (U 5 (bytes "6" ++ (0xE2 ∷ 0x82 ∷ []))) (refused 9)
    -- 32 bytes, counted as bytes
    ∷ does 1 (U 5 (bytes "12345678901234567890123456789" ++ (0xE2 ∷ 0x82 ∷ 0xAC ∷ []))) (granted done)
    ∷ does 1 (U 5 (bytes "123456789012345678901234567890" ++ (0xE2 ∷ 0x82 ∷ 0xAC ∷ []))) (refused 9)
    -- a number's low byte first; 65542 and 6 are two numbers
    ∷ does 1 (I 67305985 2 (bytes "x") 1 4) (granted done)
    ∷ lends 1 (TT 67305985) (bytes "----") (granted (numbers_are (67305985 ∷ []))) (1 ∷ 2 ∷ 3 ∷ 4 ∷ [])
    ∷ does 1 (R 65542) (refused 7)
    ∷ does 1 (I 65542 2 (bytes "x") 1 4) (granted done) ∷ []) ∷
    -- 15 before 4, 5 and 6, which are given when nothing is open
    (gives (load (unreadable 4 0)) (refused 15)
    ∷ gives (commit 1) (granted done)
    ∷ gives (load (unreadable 5 35)) (refused 15)
    ∷ gives (abort 2) (granted done)
    ∷ gives (load (unreadable 4 0)) (refused_at 4 0)
    ∷ gives (load (unreadable 5 35)) (refused_at 5 35)
    ∷ gives (load (unreadable 6 65535)) (refused_at 6 65535) ∷ []) ∷
    []

-- elements with one letter as their name, numbered from i
abbrev elements : ℕ → ℕ → Document → Document
elements i zero below = nil
elements i (suc n) below = node (record { number = i; kind = 2; content = bytes "a" }) below (elements (suc i) n nil)

-- node 0, the root 1, and 1,022 elements under it
unfoldable pub full : Document
full = node (record { number = 0; kind = 1; content = [] }) (elements 1 1 (elements 2 1022 nil)) nil

-- 1,024 nodes held: element 1024 under 1, as the k-th child
abbrev one_more : ℕ → Step
one_more k = I 1024 2 (bytes "a") 1 k

abbrev pub at_the_limit : List Item
at_the_limit =
    -- 11 before 12
    does 1 (one_more 0) (refused 11)
    ∷ does 1 (one_more 1024) (refused 11)
    ∷ does 1 (one_more 1) (refused 12)
    -- 10 before 12
    ∷ does 1 (I 1023 2 (bytes "a") 1 1) (refused 10)
    -- a wait before 12
    ∷ does 2 (C 1 1022) (granted (child_is 1023 2))
    ∷ does 1 (one_more 1) (waits 2)
    ∷ gives (commit 2) (granted done)
    -- a deleted node is held until the transaction ends; 12 at 1,024 and not before
    ∷ does 1 (D 1023) (granted done)
    ∷ does 1 (one_more 1) (refused 12)
    ∷ gives (commit 1) (granted done)
    ∷ gives (begin 1) (granted done)
    ∷ does 1 (one_more 1) (granted done)
    ∷ does 1 (I 1025 2 (bytes "a") 1 1) (refused 12) ∷ []
