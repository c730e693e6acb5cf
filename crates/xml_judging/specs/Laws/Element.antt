-- The root element: its start tag, the loop over its content, what is behind it.
use Rattle.std.specs.Prelude.{ℕ, ◌+◌, ◌≤◌, ◌<◌, ◌≡◌, true, false, length, get_or, Ok, Err}
use Rattle.std.proofs.Math.Path.{refl}
use Rattle.std.proofs.Common.{sym}
use mathlib.Core.List.{List, [], ◌∷◌}
use native.Mathlib.Omega.{arith}
use Rattle.tree.specs.Spelling.{Spelling, spelling, spell, start_of}
use Rattle.xml.specs.Bytes.{blank}
use Rattle.xml.specs.Laws.Automaton.{epilog, tag_name, closed, step}
use Rattle.xml.specs.Laws.Monitor.{on}
use Rattle.xml.specs.Laws.Judge.{Verdict, fine, bad}
use Rattle.xml.specs.Laws.Scan.{scan_at}
use Rattle.xml.specs.Laws.Goes.{Leads, Goes}
use Rattle.xml.proofs.Laws.Goes.{goes_then, goes_same, stops_stuck, over_end}
use Rattle.xml.proofs.Laws.Tokens.{goes_blanks}
use Rattle.xml_tokens.specs.declared.Cursor.{Cursor}
use Rattle.xml_tokens.specs.Steps.{Run}
use Rattle.xml_tokens.specs.Laws.Tags.{no_blank_here}
use Rattle.xml_reader.specs.declared.Tag.TheVariants.{Opened, Emptied}
use Rattle.xml_reader.specs.Elements.{stack, Placed, ElementRead, element_opened, element_emptied, element_broken}
use Rattle.xml_reader.specs.Children.{Beginning, Deep, ChildRead, child_at, child_stopped}
use Rattle.protocol.specs.CauseNumbers.{number_of}
use Rattle.protocol.specs.declared.causes.Cause.{Cause}
use Rattle.xml_reader.specs.Values.{inside_at}
use Rattle.xml_tokens.specs.Values.{refusal, read}

-- behind the root element
module _ (s : List ℕ) (at i spare : ℕ) (r : Run blank s at i) where
  to_end : Goes true s epilog spare at epilog spare i
  unfolding step
  to_end = goes_then (goes_blanks s epilog spare (λ b e. rw e) refl at) (goes_same s epilog spare _ i (sym r.ends))

  pub epilog_wrong : i < length s → Leads true s epilog spare at (bad 4 i)
  unfolding step
  epilog_wrong h = to_end.back _ (stops_stuck s epilog spare i h (rw (no_blank_here s at i r h)))

  pub epilog_over : length s ≤ i → Leads true s epilog spare at (fine spare)
  epilog_over h = to_end.back _ (over_end s epilog spare i h refl)

-- the loop over the content has come to i, with so many open elements; n of the spare nodes may still come
pub record ContentTo (s os os' : List ℕ) (at spare i deep n : ℕ) : Type 0 where
  pub comes : Goes true s (closed (stack s os 0 1)) spare at (closed (stack s os' 0 deep)) n i
  pub begins_here : Beginning s i
  pub room : deep + 1 + n ≤ 1024
  pub long : length os' ≡ 1024
  pub names : Placed s os' deep

pub content_start : (s os : List ℕ) (at spare : ℕ) → Beginning s at → Deep s os 1 spare → ContentTo s os os at spare at 1 spare
content_start s os at spare b d =
    record {
      comes = goes_same s (closed (stack s os 0 1)) spare at at refl;
      begins_here = b;
      room = d.room;
      long = d.long;
      names = d.names;
    }

module _ (s os os' : List ℕ) (at spare i deep n : ℕ) (t : ContentTo s os os' at spare i deep n) where
  pub content_deep : 0 < deep → Deep s os' deep n
  content_deep h = record { some = omega arith; room = t.room; long = t.long; names = t.names }

  pub content_stopped : {os'' : List ℕ} {x : Cause} {j : ℕ} → ChildRead s (closed (stack s os' 0 deep)) i n os'' (Err (refusal x j))
      → Leads true s (closed (stack s os 0 1)) spare at (bad (number_of x) j)
  content_stopped (child_stopped f) = t.comes.back _ f

  pub content_turn : {os'' : List ℕ} {c : Cursor} {d m : ℕ} → ChildRead s (closed (stack s os' 0 deep)) i n os'' (Ok (inside_at c d m))
      → ContentTo s os os'' at spare c.at d m × (i < c.at) × (c.at ≤ length s)
  content_turn (child_at o p q r w) = (
    record {
      comes = goes_then t.comes w;
      begins_here = record { inside = o.inside; begins_here = o.begins_here };
      room = p;
      long = q;
      names = r;
    },
    o.further,
    o.inside,
  )

  pub content_over : deep ≤ 0 → (v : Verdict) → Leads true s epilog n i v → Leads true s (closed (stack s os 0 1)) spare at v
  unfolding stack
  content_over h v y = t.comes.back v (let p : deep ≡ 0 = omega arith in rw p y)

-- the start tag of the root element
module _ (s : List ℕ) (at spare : ℕ) where
  -- behind the first byte of its name, as far as it is read
  abbrev pub Rooted : Verdict → Type 0
  Rooted v = (y : Spelling) → spell (start_of false) (get_or s at 0) ≡ spelling y
      → scan_at s (tag_name [] (get_or s at 0 ∷ [])) (on y) spare 1 (at + 1) ≡ v

  pub root_broken : {x : Cause} {j : ℕ} → ElementRead s at spare (Err (refusal x j)) → Rooted (bad (number_of x) j)
  root_broken (element_broken f) y e = f [] y e

  pub root_empty : {c : Cursor} {m : ℕ} (v : Verdict) → ElementRead s at spare (Ok (Emptied (read c m))) → Leads true s epilog m c.at v
      → Rooted v
  root_empty v (element_emptied o f) k y e = f [] y e v k

  pub root_open : {c : Cursor} {m : ℕ} (os : List ℕ) (v : Verdict) → get_or os 0 0 + 1 ≡ at → ElementRead s at spare (Ok (Opened (read c m)))
      → Leads true s (closed (stack s os 0 1)) m c.at v
      → Rooted v
  unfolding stack
  root_open os v e (element_opened o f) k y h = f [] y h v (rw e at k)

pub emptied_inside : {s : List ℕ} {at spare m : ℕ} {c : Cursor} → ElementRead s at spare (Ok (Emptied (read c m))) → c.at ≤ length s
emptied_inside (element_emptied o f) = o.inside

pub opened_inside : {s : List ℕ} {at spare m : ℕ} {c : Cursor} (os : List ℕ) → length os ≡ 1024 → get_or os 0 0 + 1 ≡ at → at ≤ length s
    → length s ≤ 65537 → 2 + spare ≤ 1024
    → ElementRead s at spare (Ok (Opened (read c m))) → Beginning s c.at × Deep s os 1 m
opened_inside {s} os l e h z p (element_opened o f) = (
  record { inside = o.inside; begins_here = o.begins_here },
  record {
    some = omega arith;
    room = omega (arith, o.fewer);
    long = l;
    names = record { short = z; placed = λ i k. let y : i ≡ 0 = omega arith in rw (y, e) h };
  },
)
