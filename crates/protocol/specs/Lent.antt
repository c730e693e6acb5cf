-- What a granted call puts into lent buffers.
use Rattle.std.specs.Prelude.{ℕ, ◌-◌, ◌/◌, ◌%◌, Bool, ◌&&◌, List, [], ◌∷◌, ◌++◌, map, length, replicate, drop, leb}
use Rattle.tree.specs.Content.{content_limit}
use Rattle.tree.specs.Steps.{Value, done, kind_parent, child_is, none, content_is, numbers_are, cells_are, how_many}

-- "low byte first": a node number takes four bytes
abbrev pub number_bytes : ℕ → List ℕ
number_bytes n = n % 256 ∷ n / 256 % 256 ∷ n / 65536 % 256 ∷ n / 16777216 ∷ []

abbrev pub list_bytes : List ℕ → List ℕ
list_bytes [] = []
list_bytes (n ∷ ns) = number_bytes n ++ list_bytes ns

-- "a 33-byte cell each (length, content, zeros)"
abbrev pub cell : List ℕ → List ℕ
cell b = length b ∷ (b ++ replicate (content_limit - length b) 0)

abbrev pub cells : List (ℕ × List ℕ) → List ℕ
cells [] = []
cells (c ∷ cs) = cell c.1 ++ cells cs

-- the content of R, the numbers of TT and of RR
unfoldable pub first_lent : Value → List ℕ
first_lent done = []
first_lent (kind_parent kind parent) = []
first_lent (child_is number kind) = []
first_lent none = []
first_lent (content_is b) = b
first_lent (numbers_are l) = list_bytes l
first_lent (cells_are l) = list_bytes (map (λ c. c.0) l)
first_lent (how_many n) = []

-- the cells of RR
unfoldable pub second_lent : Value → List ℕ
second_lent done = []
second_lent (kind_parent kind parent) = []
second_lent (child_is number kind) = []
second_lent none = []
second_lent (content_is b) = []
second_lent (numbers_are l) = []
second_lent (cells_are l) = cells l
second_lent (how_many n) = []

-- the lengths of the lent buffers; 0 where a step has none
pub record Room : Type 0 where
  pub first : ℕ
  pub second : ℕ

abbrev pub has_room : Value → Room → Bool
has_room v b = leb (length (first_lent v)) b.first && leb (length (second_lent v)) b.second

-- a lent buffer afterwards: "bytes of a lent buffer behind the answer keep their values"
abbrev pub filled : List ℕ → List ℕ → List ℕ
filled b buffer = b ++ drop (length b) buffer
