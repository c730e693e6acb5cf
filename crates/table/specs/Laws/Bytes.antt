-- Stores to bytes, and what they leave alone.
use Rattle.std.specs.Prelude.{◌≡◌, refl, ℕ, zero, suc, ◌+◌, ◌/◌, ◌%◌, ◌≤◌, ◌<◌, Bool, true, false, List, ◌∷◌, ◌++◌, length, get_or, take, drop, set, eqb, ltb}
use Rattle.std.proofs.Common.{sym, ◌∙◌, ap, arith, suc-add, length-take, length-drop, length-set, get_or-take, get_or-drop, ext_get_or, get_or-set_same, get_or-set_other, length-take-le, eqb-true, ltb-true, ltb-false}
use Rattle.std.proofs.lemmas.List.{drop-set-add}
use Rattle.std.proofs.Math.Seq.{take-set-lt}
use Rattle.std.proofs.lemmas.Bool.{eqb-false}
use Rattle.table.specs.Layout.{word, double_word, part}

-- only the n bytes from k on may differ
pub record Only (k n : ℕ) (s s' : List ℕ) : Type 0 where
  pub long : length s' ≡ length s
  pub low : (j : ℕ) → j < k → get_or s' j 0 ≡ get_or s j 0
  pub high : (j : ℕ) → k + n ≤ j → get_or s' j 0 ≡ get_or s j 0

-- a byte outside
pub off : {k n : ℕ} {s s' : List ℕ} → Only k n s s' → (j : ℕ) → (k ≤ j → k + n ≤ j) → get_or s' j 0 ≡ get_or s j 0
off {k} {n} {s} {s'} o j h = go (ltb j k) refl
  where
    go : (t : Bool) → ltb j k ≡ t → get_or s' j 0 ≡ get_or s j 0
    go true p = o.low j (ltb-true j k p)
    go false p = o.high j (h (ltb-false j k p))

only_of : {k n : ℕ} {s s' : List ℕ} → length s' ≡ length s → ((j : ℕ) → (k ≤ j → k + n ≤ j) → get_or s' j 0 ≡ get_or s j 0) → Only k n s s'
only_of e f = record { long = e; low = λ j h. f j (λ x. omega arith); high = λ j h. f j (λ x. h) }

pub only_none : (k n : ℕ) (s : List ℕ) → Only k n s s
only_none k n s = record { long = refl; low = λ j h. refl; high = λ j h. refl }

pub only_wider : {k n : ℕ} {s s' : List ℕ} (i m : ℕ) → Only k n s s' → i ≤ k → k + n ≤ i + m → Only i m s s'
only_wider i m a h l = record { long = a.long; low = λ j x. a.low j (omega arith); high = λ j x. a.high j (omega arith) }

-- two changes inside a range
pub only_both : {k n k' n' : ℕ} {s s' s'' : List ℕ} (i m : ℕ) → Only k n s s' → Only k' n' s' s'' → i ≤ k → k + n ≤ i + m → i ≤ k'
    → k' + n' ≤ i + m
    → Only i m s s''
only_both i m a b h l h' l' =
    let x = only_wider i m a h l in
    let y = only_wider i m b h' l' in
    record { long = b.long ∙ a.long; low = λ j z. y.low j z ∙ x.low j z; high = λ j z. y.high j z ∙ x.high j z }

pub only_set : (s : List ℕ) (k v : ℕ) → Only k 1 s (set s k v)
only_set s k v = only_of (length-set s k v) (λ j h. get_or-set_other s k j v 0 (λ e. let z = h (omega arith) in omega arith))

-- sixteen bits stored
unfoldable pub put_word : List ℕ → ℕ → ℕ → List ℕ
put_word s k v = set (set s k (v % 256)) (k + 1) (v / 256)

pub only_word : (s : List ℕ) (k v : ℕ) → Only k 2 s (put_word s k v)
unfolding put_word
only_word s k v =
    only_both k 2 (only_set s k (v % 256)) (only_set (set s k (v % 256)) (k + 1) (v / 256)) (omega arith) (omega arith) (omega arith)
    (omega arith)

pub word_put : (s : List ℕ) (k v : ℕ) → k + 1 < length s → word (put_word s k v) k ≡ v
unfolding put_word word
word_put s k v h =
    let a : k + 1 < length (set s k (v % 256)) = rw length-set h in
    let b : k < length s = omega arith in
    rw (
      get_or-set_same (set s k (v % 256)) (k + 1) (v / 256) 0 a,
      get_or-set_other (set s k (v % 256)) (k + 1) k (v / 256) 0 (λ e. omega arith),
      get_or-set_same s k (v % 256) 0 b,
    )
    (omega arith)

-- lists that agree in some bytes have the same part there
pub part_same : (s s' : List ℕ) (k n : ℕ) → length s' ≡ length s → ((j : ℕ) → k ≤ j → j < k + n → get_or s' j 0 ≡ get_or s j 0)
    → part s' k n ≡ part s k n
unfolding part
part_same s s' k n l h =
    ext_get_or 0 (take n (drop k s')) (take n (drop k s)) (simp (length-take, length-drop) (rw l))
    (λ i m. let b : i < n = omega (arith, length-take n (drop k s')) in
    get_or-take n (drop k s') i 0 b ∙ get_or-drop k s' i 0 ∙ h (k + i) (omega arith) (omega arith) ∙ sym (get_or-drop k s i 0)
    ∙ sym (get_or-take n (drop k s) i 0 b))

pub double_word_same : (s s' : List ℕ) (k : ℕ) → ((j : ℕ) → k ≤ j → j < k + 4 → get_or s' j 0 ≡ get_or s j 0)
    → double_word s' k ≡ double_word s k
unfolding double_word word
double_word_same s s' k h = rw (
  h k (omega arith) (omega arith),
  h (k + 1) (omega arith) (omega arith),
  h (k + 2) (omega arith) (omega arith),
  h (k + 2 + 1) (omega arith) (omega arith),
)

-- words, parts and the rest outside of what may differ: if the change begins before their end, it ends before them
module _ {k n : ℕ} {s s' : List ℕ} (o : Only k n s s') where
  pub word_off : (i : ℕ) → (k < i + 2 → k + n ≤ i) → word s' i ≡ word s i
  unfolding word
  word_off i h = rw (off o i (λ x. h (omega arith)), off o (i + 1) (λ x. let z = h (omega arith) in omega arith))

  pub double_word_off : (i : ℕ) → (k < i + 4 → k + n ≤ i) → double_word s' i ≡ double_word s i
  unfolding double_word
  double_word_off i h = rw (word_off i (λ x. h (omega arith)), word_off (i + 2) (λ x. let z = h (omega arith) in omega arith))

  pub part_off : (i m : ℕ) → (k < i + m → k + n ≤ i) → part s' i m ≡ part s i m
  part_off i m h = part_same s s' i m o.long (λ j a b. off o j (λ x. let z = h (omega arith) in omega arith))

  pub drop_high : (i : ℕ) → k + n ≤ i → drop i s' ≡ drop i s
  drop_high i h =
      ext_get_or 0 (drop i s') (drop i s) (simp length-drop (rw o.long))
      (λ j m. get_or-drop i s' j 0 ∙ o.high (i + j) (omega arith) ∙ sym (get_or-drop i s j 0))

-- thirty-two bits stored
unfoldable pub put_double_word : List ℕ → ℕ → ℕ → List ℕ
put_double_word s k v = put_word (put_word s k (v % 65536)) (k + 2) (v / 65536)

pub only_double_word : (s : List ℕ) (k v : ℕ) → Only k 4 s (put_double_word s k v)
unfolding put_double_word
only_double_word s k v =
    only_both k 4 (only_word s k (v % 65536)) (only_word (put_word s k (v % 65536)) (k + 2) (v / 65536)) (omega arith) (omega arith)
    (omega arith) (omega arith)

pub double_word_put : (s : List ℕ) (k v : ℕ) → k + 3 < length s → double_word (put_double_word s k v) k ≡ v
unfolding put_double_word double_word
double_word_put s k v h =
    let low = only_word s k (v % 65536) in
    let high = only_word (put_word s k (v % 65536)) (k + 2) (v / 65536) in
    rw (
      word_put (put_word s k (v % 65536)) (k + 2) (v / 65536) (omega (arith, low.long)),
      word_off high k (λ x. omega arith),
      word_put s k (v % 65536) (omega arith),
    )
    (omega arith)

pub length_part : (s : List ℕ) (k n : ℕ) → k + n ≤ length s → length (part s k n) ≡ n
unfolding part
length_part s k n h = length-take-le n (drop k s) (simp length-drop (omega arith))

pub part_at : (s : List ℕ) (k n i : ℕ) → i < n → get_or (part s k n) i 0 ≡ get_or s (k + i) 0
unfolding part
part_at s k n i h = get_or-take n (drop k s) i 0 h ∙ get_or-drop k s i 0

-- a store in a part
pub part_set : (s : List ℕ) (k n i v : ℕ) → i < n → part (set s (k + i) v) k n ≡ set (part s k n) i v
unfolding part
part_set s k n i v h = rw (drop-set-add k s i v, take-set-lt n (drop k s) i v h)

-- what a loop over bytes leaves: n bytes from k on, by a rule
pub record Filled (k n : ℕ) (v : ℕ → ℕ) (s s' : List ℕ) : Type 0 where
  pub only : Only k n s s'
  pub bytes : (j : ℕ) → j < n → get_or s' (k + j) 0 ≡ v j

pub filled_none : (k : ℕ) (v : ℕ → ℕ) (s : List ℕ) → Filled k 0 v s s
filled_none k v s = record { only = only_none k 0 s; bytes = λ j h. absurd (omega arith) }

pub filled_more : (k n : ℕ) (v : ℕ → ℕ) (s s' : List ℕ) (x : ℕ) → Filled k n v s s' → k + n < length s → x ≡ v n
    → Filled k (n + 1) v s (set s' (k + n) x)
filled_more k n v s s' x f h e =
    record {
      only = only_both k (n + 1) f.only (only_set s' (k + n) x) (omega arith) (omega arith) (omega arith) (omega arith);
      bytes = λ j l. go j l (eqb j n) refl;
    }
  where
    go : (j : ℕ) → j < n + 1 → (t : Bool) → eqb j n ≡ t → get_or (set s' (k + n) x) (k + j) 0 ≡ v j
    go j l true p = rw (eqb-true j n p) (get_or-set_same s' (k + n) x 0 (omega (arith, f.only.long)) ∙ e)
    go j l false p =
        let ne : j ≡ n → ⊥ = eqb-false j n p in
        get_or-set_other s' (k + n) (k + j) x 0 (λ q. ne (omega arith)) ∙ f.bytes j (omega (arith, ne))

pub filled_done : {k : ℕ} {v : ℕ → ℕ} {s s' : List ℕ} (j n : ℕ) → Filled k j v s s' → j ≤ n → n ≤ j → Filled k n v s s'
filled_done {k} {v} {s} {s'} j n f a b = let e : j ≡ n = omega arith in rw e at f

-- two bytes, or four, in the place of others are as many stores
pub two_stored : (s : List ℕ) (k a b : ℕ) → k + 1 < length s → take k s ++ (a ∷ (b ∷ drop 2 (drop k s))) ≡ set (set s k a) (k + 1) b
two_stored (v ∷ (w ∷ s)) zero a b h = refl
two_stored (v ∷ s) (suc k) a b h = rw (suc-add k 1) (ap (λ l. v ∷ l) (two_stored s k a b (omega arith)))
two_stored _ _ a b h = absurd (omega arith)

pub four_stored : (s : List ℕ) (k a b c d : ℕ) → k + 3 < length s
    → take k s ++ (a ∷ (b ∷ (c ∷ (d ∷ drop 4 (drop k s))))) ≡ set (set (set (set s k a) (k + 1) b) (k + 2) c) (k + 3) d
four_stored (v ∷ (w ∷ (x ∷ (y ∷ s)))) zero a b c d h = refl
four_stored (v ∷ s) (suc k) a b c d h = rw (suc-add k 1, suc-add k 2, suc-add k 3) (ap (λ l. v ∷ l) (four_stored s k a b c d (omega arith)))
four_stored _ _ a b c d h = absurd (omega arith)
