-- What changes leave, one after the other.
use Rattle.std.specs.Prelude.{◌≡◌, refl, ℕ, List, length}
use Rattle.std.proofs.Common.{sym, ap, ◌∙◌, subst}
use Rattle.protocol.specs.State.{Header}
use Rattle.table.specs.Layout.{header, Entry, nodes, Layout, Left, Kept}

-- the two records, by each other
pub left_kept : {s s' : List ℕ} {ns : List Entry} → Kept s s' ns → Left s s' (header s) ns
left_kept a = record { layout = a.layout; long = a.long; behind = a.behind; header = a.header; nodes = a.nodes }

pub kept_left : {s s' : List ℕ} {ns : List Entry} → Left s s' (header s) ns → length (nodes s') ≡ length (nodes s) → Kept s s' ns
kept_left a m = record { layout = a.layout; long = a.long; behind = a.behind; header = a.header; many = m; nodes = a.nodes }

pub left_as : {s s' : List ℕ} {q : Header} (ns ms : List Entry) → ns ≡ ms → Left s s' q ns → Left s s' q ms
left_as {s} {s'} {q} ns ms e k = subst (λ (l : List Entry). Left s s' q l) e k

pub kept_as : {s s' : List ℕ} (ns ms : List Entry) → ns ≡ ms → Kept s s' ns → Kept s s' ms
kept_as {s} {s'} ns ms e k = subst (λ (l : List Entry). Kept s s' l) e k

pub kept_same : (s : List ℕ) → Layout s → Kept s s (nodes s)
kept_same s h = record { layout = h; long = refl; behind = refl; header = refl; many = refl; nodes = refl }

-- one change after the other
pub left_on : {s s' s'' : List ℕ} {q : Header} (ns : List Entry) (g : Header → Header) (f : List Entry → List Entry) → Left s s' q ns
    → Left s' s'' (g (header s')) (f (nodes s')) → Left s s'' (g q) (f ns)
left_on ns g f a b = record {
  layout = b.layout;
  long = b.long ∙ a.long;
  behind = b.behind ∙ a.behind;
  header = b.header ∙ ap g a.header;
  nodes = b.nodes ∙ ap f a.nodes;
}

-- a change that leaves the header, after one that may have changed it or the number of nodes
pub then_left : {s s' s'' : List ℕ} {q : Header} (ns : List Entry) (f : List Entry → List Entry) → Left s s' q ns
    → Left s' s'' (header s') (f (nodes s')) → Left s s'' q (f ns)
then_left ns f a b = left_on ns (λ q. q) f a b

pub left_then : {s s' s'' : List ℕ} {q : Header} (ns : List Entry) (f : List Entry → List Entry) → Left s s' q ns → Kept s' s'' (f (nodes s'))
    → Left s s'' q (f ns)
left_then ns f a b = then_left ns f a (left_kept b)

pub kept_then : {s s' s'' : List ℕ} (ns : List Entry) (f : List Entry → List Entry) → Kept s s' ns → Kept s' s'' (f (nodes s'))
    → Kept s s'' (f ns)
kept_then ns f a b = kept_left (left_then ns f (left_kept a) b) (b.many ∙ a.many)

-- whatever nodes were left between
pub kept_on : {s s' s'' : List ℕ} {ns : List Entry} → Kept s s' (nodes s') → Kept s' s'' ns → Kept s s'' (nodes s'')
kept_on {s} {s'} {s''} a b = kept_then (nodes s') (λ l. nodes s'') a (kept_as _ _ (sym b.nodes) b)
