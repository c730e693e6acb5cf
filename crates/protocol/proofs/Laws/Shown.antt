-- What the committed document shows.
use Rattle.std.specs.Prelude.{◌≡◌, refl, ℕ, false, not, List, [], ◌∷◌, eqb}
use Rattle.std.proofs.Math.Bool.{and-false, and-true, or-false}
use Rattle.protocol.specs.State.{nobody, Saved, Update, unwritten, wrote, writer_of, saved_of, Marked, shown, content_at}
use Rattle.protocol.specs.State.{content_shown, nothing}

-- what no open transaction inserted; a deletion by an open one hides nothing there
pub shown_committed : (a : Marked) → shown nothing a ≡ eqb a.inserter nobody
shown_committed a =
    rw (and-false (not (eqb a.deleter nobody)), or-false (eqb a.inserter nobody)) (and-true (eqb a.inserter nobody))

-- of a content that was written the one saved first
content_first : (b : List ℕ) (deeper : List Saved) (l : ℕ) (saved : List ℕ) → content_at (λ l. false) b deeper l saved ≡ saved
content_first b [] l saved = refl
content_first b (x ∷ xs) l saved = content_first x.1 xs l saved

pub content_committed : (b : List ℕ) (u : Update) → (writer_of u ≡ nobody → ⊥) → content_shown nothing b u ≡ saved_of u
content_committed b unwritten h = absurd (h refl)
content_committed b (wrote t l saved deeper) h = content_first b deeper l saved
