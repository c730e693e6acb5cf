-- Names in their order, each once, for those that were seen.
use Rattle.std.specs.Prelude.{ℕ, suc, ◌+◌, ◌≤◌, ◌<◌, ◌≡◌, true, false, List, ◌∷◌, Result, Ok, Err, length, get_or}
use Rattle.std.specs.declared.cmp.Ordering.{Ordering}
use Rattle.xml.specs.Bytes.{used}
use Rattle.byte_strings.specs.Order.{Precedes, Ordered}

-- the name of the i-th entry from place lo on; f is the name that an entry stands for
unfoldable pub entries : (ℕ → List ℕ) → List ℕ → ℕ → ℕ → List ℕ
entries f os lo i = f (get_or os (lo + i) 0)

-- the first n names are in their order
pub record Increasing (name : ℕ → List ℕ) (n : ℕ) : Type 0 where
  pub increasing : (i j : ℕ) → i < j → j < n → Precedes (name i) (name j)

-- w is one of the first n names
pub record Among (name : ℕ → List ℕ) (n : ℕ) (w : List ℕ) : Type 0 where
  pub at : ℕ
  pub inside : at < n
  pub is : name at ≡ w

-- the first n names are those that were seen
pub record Lists (name : ℕ → List ℕ) (n : ℕ) (seen : List (List ℕ)) : Type 0 where
  pub each_seen : (i : ℕ) → i < n → used seen (name i) ≡ true
  pub has : (w : List ℕ) → used seen w ≡ true → Among name n w

-- the names before place low come before w, those from place high on behind it
pub record Between (name : ℕ → List ℕ) (n low high : ℕ) (w : List ℕ) : Type 0 where
  pub below : (i : ℕ) → i < low → Precedes (name i) w
  pub above : (i : ℕ) → high ≤ i → i < n → Precedes w (name i)

-- how the name of each entry lies to w, as far as `says` tells
pub record Orders (says : ℕ → Ordering → Type 0) (os : List ℕ) (name : ℕ → List ℕ) (w : List ℕ) : Type 0 where
  pub lies : (i : ℕ) {r : Ordering} → i < length os → says (get_or os i 0) r → Ordered (name i) w r

-- where w belongs among the first n names: the one that it is, or the place that it can be put at
pub data Belongs (name : ℕ → List ℕ) (n : ℕ) (w : List ℕ) : Result ℕ ℕ → Type 0 where
  is_taken : {k : ℕ} → k < n → name k ≡ w → Belongs name n w (Ok k)
  is_free : {k : ℕ} → k ≤ n → Between name n k k w → Belongs name n w (Err k)

-- v is put at place `at`, the entries from there on, up to `end`, one place further
pub record Inserted (os os' : List ℕ) (at end v : ℕ) : Type 0 where
  pub inside : at ≤ end
  pub as_long : length os' ≡ length os
  pub ahead : (i : ℕ) → i < at → get_or os' i 0 ≡ get_or os i 0
  pub here : get_or os' at 0 ≡ v
  pub further : (i : ℕ) → at ≤ i → i < end → get_or os' (suc i) 0 ≡ get_or os i 0

-- w put among the first n names
pub record Added (name name' : ℕ → List ℕ) (n : ℕ) (w : List ℕ) : Type 0 where
  pub sorted : Increasing name' (n + 1)
  pub unseen : (seen : List (List ℕ)) → Lists name n seen → used seen w ≡ false
  pub lists : (seen : List (List ℕ)) → Lists name n seen → Lists name' (n + 1) (w ∷ seen)
