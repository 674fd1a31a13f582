-- A year of history: what the calls since a journal began keep, and what the map on a day is.
use mathlib.Core.Path.{◌≡◌, refl, sym, ap, ◌∙◌, subst}
use mathlib.Core.Bool.{Bool, true, false}
use mathlib.Core.List.{List, [], ◌∷◌, ◌++◌}
use Prim.Native.Nat.{ℕ, suc, ◌+◌, ◌<◌, ◌≤◌}
use native.Mathlib.Decide.{dec_lt}
use native.Mathlib.Omega.{arith}
use lib.ListN.{length, take}
use Rattle.numbers.specs.Room.{room}
use Rattle.numbers.specs.declared.Caps.{Caps}
use Rattle.map.specs.Cells.{Map}
use Rattle.map.specs.Answers.{Answer}
use Rattle.map.specs.Says.{given, verdict_says}
use Rattle.std.specs.Prelude.{Ok}
use Rattle.picture.specs.Picture.{Wf}
use Rattle.picture.proofs.Put.{wf_one}
use Rattle.edits.proofs.Cut.{room_of}
use Rattle.journal_store.specs.Days.{Dated, before, since, map_after, map_on, last_day, ever_of, fold_answer, fold_after}
use Rattle.journal_store.specs.Journals.{entries_in}
use Rattle.journal_store.proofs.Days.{before_early, before_late, since_early, since_late, since_then, up_to_last}
use Rattle.journal.specs.Kept.{Filed, Kept, both}
use Rattle.year.specs.Calls.{OnDay, Folded}
use Rattle.year.specs.Since as S
use Rattle.year.specs.Since.{Since}
use Rattle.journal.proofs.Both.{after_caps, kept_both}
use Rattle.year.proofs.Opened.{filed_both}
use Rattle.year.proofs.Replaying.{filed_entries}

-- every call keeps the relation
pub since_kept : {m : Map} {past : List Dated} {fold : ℕ} {mesh j start : List ℕ} → Since m past fold mesh j start → Kept m past fold mesh j start
since_kept (S.begun {m} wf did) = (did.answers m wf).1 refl
since_kept (S.enter {m} {past} {fold} {start = start} on did) = (did.answers m past fold start (since_kept on)).1
since_kept (S.folded {m} {past} {fold} on did) =
    let k = since_kept on in
    record { filed = (did.answers m past fold k.filed).1; accepted = k.accepted; today = k.today }

-- 14 is "never for a mesh, journal and starting map kept by our own calls since that journal began"
pub kept_opens : {m : Map} {past : List Dated} {fold : ℕ} {mesh j start : List ℕ} → Kept m past fold mesh j start → (both mesh j ≡ true) × (both start j ≡ true)
kept_opens {m} {past} {fold} {mesh} {j} k = (
  kept_both mesh j (map_after m past) (since fold past) (last_day past) (ever_of past) fold k.today (rw (after_caps m past) k.filed.journal),
  filed_both k.filed,
)

on_room : (m : Map) (past : List Dated) (day : ℕ) → room_of (map_on m past day) ≡ room_of m
unfolding map_on
on_room m past day = ap (λ (c : Caps). room c.marks c.cells) (after_caps m (before (suc day) past))

-- the map on a day is, word for word, the mesh that the edits of that day and earlier ones leave, whatever was folded
pub day_words : {m : Map} {past : List Dated} {fold : ℕ} {j start second second' : List ℕ} {day : ℕ} → Filed m past fold j start
    → OnDay j start day second (Ok tt) second' → (w : List ℕ) → Wf w (map_on m past day) → take (room_of m) second' ≡ take (room_of m) w
day_words {m} {past} {fold} {second' = second'} {day} f did w wf =
    rw (on_room m past day) at (wf_one second' w (map_on m past day) ((did.answers m past fold f).1 refl) wf)

-- so folding changes no answer: before and after folds a day has the same words
pub same_day : {m : Map} {past : List Dated} {fold fold₂ : ℕ} {j start j₂ start₂ a a' b b' : List ℕ} {day : ℕ} → Filed m past fold j start
    → Filed m past fold₂ j₂ start₂ → OnDay j start day a (Ok tt) a' → OnDay j₂ start₂ day b (Ok tt) b' → take (room_of m) a' ≡ take (room_of m) b'
same_day {m} {past} {fold₂ = fold₂} {b' = b'} {day} f g x y = day_words f x b' ((y.answers m past fold₂ g).1 refl)

-- "a day after the last reads as the last": it is today's mesh
pub last_day_lem : {m : Map} {past : List Dated} {fold : ℕ} {mesh j start second second' : List ℕ} {day : ℕ} → Kept m past fold mesh j start → last_day past ≤ day
    → OnDay j start day second (Ok tt) second' → take (room_of m) second' ≡ take (room_of m) mesh
unfolding map_on
last_day_lem {m} {past} {mesh = mesh} {day = day} k h did =
    day_words k.filed did mesh (rw (up_to_last day k.filed.order h) k.today)

-- the edits before a day and those from it on are all
both_sides : (f : ℕ) (es : List Dated) → length (before f es) + length (since f es) ≡ length es
unfolding before since
both_sides f [] = refl
both_sides f (e ∷ es) = go (both_sides f es) (dec_lt e.day f)
  where
    go : length (before f es) + length (since f es) ≡ length es → Dec (e.day < f) → length (before f (e ∷ es)) + length (since f (e ∷ es)) ≡ length (e ∷ es)
    go on (yes l) = rw (before_early f e es l, since_early f e es l) (omega arith)
    go on (no n) = rw (before_late f e es (omega arith), since_late f e es (omega arith)) (omega arith)

-- a fold "frees their room": the entries are fewer by the edits that were moved
pub fold_frees : {m : Map} {past : List Dated} {fold : ℕ} {j start j' start' : List ℕ} {day : ℕ} → Filed m past fold j start → fold ≤ suc day
    → Filed m past (suc day) j' start' → length (before (suc day) (since fold past)) + entries_in j' ≡ entries_in j
fold_frees {past = past} {fold} {day = day} f late g =
    rw (filed_entries f, filed_entries g, ← (since_then fold (suc day) late past)) (both_sides (suc day) (since fold past))
