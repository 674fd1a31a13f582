-- What opens a query for a day, test by test, and what it tells of memory that was kept.
use mathlib.Core.Path.{◌≡◌, refl, sym, ap, ◌∙◌, subst}
use mathlib.Core.Bool.{Bool, true, false, cond}
use mathlib.Core.List.{List, []}
use Prim.Native.Nat.{ℕ, ◌+◌, ◌<◌, ◌≤◌}
use native.Mathlib.Omega.{arith}
use borrow.Author.Tests.{lt-ltb, le-ltb, ltb-false}
use lib.Dec.{ltb}
use Rattle.numbers.specs.Room.{room}
use Rattle.numbers.specs.declared.Caps.{Caps}
use Rattle.store.specs.Open.{room_in, caps_in, is_mesh, opened}
use Rattle.std.specs.Prelude.{Result, Ok, Err}
use Rattle.lists.proofs.Bools.{and_left}
use Rattle.map.specs.Cells.{Map}
use Rattle.map.specs.Answers.{Answer, ◌when◌, answer}
use Rattle.map.specs.Says.{given, refused}
use Rattle.map.specs.declared.Refusal.{Refusal}
use Rattle.map.specs.declared.Refusal.TheVariants.{NotMesh, MemoryShort, DayFolded}
use Rattle.checks.proofs.Opens.{mesh_opened, wf_caps}
use Rattle.edits.proofs.Cut.{room_of}
use Rattle.journal_store.specs.Days.{Dated, before, since, map_after, last_day, ever_of, before_fold, on_answer}
use Rattle.journal_store.specs.Journals.{fold_in, is_journal}
use Rattle.journal_store.proofs.Reading.{head_fold}
use Rattle.journal.specs.Kept.{Filed, both}
use Rattle.journal.proofs.Both.{after_caps, none_both, opened_both, opened_room, kept_both}
use Rattle.year.specs.Calls.{day_opened}

module _ (j start : List ℕ) (day words : ℕ) where
  pub day_none : (Err NotMesh) ≡ opened start → Err NotMesh ≡ day_opened j start day words
  unfolding day_opened
  day_none e = rw (none_both start j e)

  module _ (caps : Caps) (opens : Ok caps ≡ opened start) where
    pub day_other : (is : Bool) → is ≡ is_journal j caps → is ≡ false → Err NotMesh ≡ day_opened j start day words
    unfolding day_opened
    day_other is ei ef = rw (opened_both start j caps opens ∙ (sym ei ∙ ef))

    module _ (is : Bool) (ei : is ≡ is_journal j caps) (et : is ≡ true) where
      pub day_folded : (folded : Bool) → folded ≡ before_fold (fold_in j) day → folded ≡ true → Err DayFolded ≡ day_opened j start day words
      unfolding day_opened
      day_folded folded ef h = rw (opened_both start j caps opens ∙ (sym ei ∙ et), sym ef ∙ h)

      module _ (folded : Bool) (ef : folded ≡ before_fold (fold_in j) day) (late : folded ≡ false) (r : ℕ) (er : r ≡ room caps.marks caps.cells) where
        same_room : r ≡ room_in start
        same_room = er ∙ opened_room start j caps opens

        pub day_short : words < r → Err MemoryShort ≡ day_opened j start day words
        unfolding day_opened
        day_short h = rw (opened_both start j caps opens ∙ (sym ei ∙ et), sym ef ∙ late, ← same_room, lt-ltb words r h)

        pub day_open : r ≤ words → Ok caps ≡ day_opened j start day words
        unfolding day_opened
        day_open h =
            rw (opened_both start j caps opens ∙ (sym ei ∙ et), sym ef ∙ late, ← same_room, le-ltb words r h) (ap Ok (mesh_opened start caps opens).1)

both_mesh : (start j : List ℕ) → both start j ≡ true → Ok (caps_in start) ≡ opened start
unfolding both opened
both_mesh start j e = rw (and_left (is_mesh start) (is_journal j (caps_in start)) e)

-- what an open day tells, on any memory
pub record DayOpen (j start : List ℕ) (day words : ℕ) (caps : Caps) : Type 0 where
  pub mesh : Ok caps ≡ opened start
  pub are : both start j ≡ true
  pub late : fold_in j ≤ day + 1
  pub fits : room_in start ≤ words

module _ (j start : List ℕ) (day words : ℕ) where
  -- memory that is none is 14
  pub day_other_why : both start j ≡ false → (why : Refusal) → day_opened j start day words ≡ Err why → why ≡ NotMesh
  unfolding day_opened
  day_other_why n why e = let z : Err NotMesh ≡ Err why = rw n at e in cc

  pub day_opens : (caps : Caps) → day_opened j start day words ≡ Ok caps → DayOpen j start day words caps
  unfolding day_opened before_fold
  day_opens caps e = go (both start j) refl (ltb (day + 1) (fold_in j)) refl (ltb words (room_in start)) refl e
    where
      go : (a : Bool) → both start j ≡ a → (b : Bool) → ltb (day + 1) (fold_in j) ≡ b → (c : Bool) → ltb words (room_in start) ≡ c
          → cond a (cond b (Err DayFolded) (cond c (Err MemoryShort) (Ok (caps_in start)))) (Err NotMesh) ≡ Ok caps → DayOpen j start day words caps
      go false ea b eb c ec e = absurd (let z : ◌≡◌ {A = ℕ} 0 1 = cc in omega arith)
      go true ea true eb c ec e = absurd (let z : ◌≡◌ {A = ℕ} 0 1 = cc in omega arith)
      go true ea false eb true ec e = absurd (let z : ◌≡◌ {A = ℕ} 0 1 = cc in omega arith)
      go true ea false eb false ec e = record {
        mesh = let z : caps_in start ≡ caps = cc in subst (λ (k : Caps). Ok k ≡ opened start) z (both_mesh start j ea);
        are = ea;
        late = ltb-false (day + 1) (fold_in j) eb;
        fits = ltb-false words (room_in start) ec;
      }

-- the room fits
pub day_fits : (j start : List ℕ) (day words : ℕ) (opening : Result Caps Refusal) → opening ≡ day_opened j start day words → (caps : Caps) → opening ≡ Ok caps
    → (r : ℕ) → r ≡ room caps.marks caps.cells → r ≤ words
day_fits j start day words opening is caps q r er =
    let o = day_opens j start day words caps (sym is ∙ q) in
    omega (arith, er, opened_room start j caps o.mesh, o.fits)

-- what an opening says
unfoldable pub opening_says : Result Caps Refusal → Answer
opening_says (Ok caps) = given []
opening_says (Err why) = refused why

module _ {m : Map} {past : List Dated} {fold : ℕ} {j start : List ℕ} (f : Filed m past fold j start) where
  pub filed_both : both start j ≡ true
  filed_both =
      kept_both start j (map_after m (before fold past)) (since fold past) (last_day past) (ever_of past) fold f.starts (rw (after_caps m (before fold past)) f.journal)

  pub filed_fold : fold_in j ≡ fold
  filed_fold = head_fold j _ _ _ _ _ f.journal

  -- the room is that of the starting map's head
  pub filed_room : (caps : Caps) → Ok caps ≡ opened start → room_of m ≡ room caps.marks caps.cells
  filed_room caps opens =
      ap (λ (z : Caps). room z.marks z.cells) (sym (after_caps m (before fold past)) ∙ wf_caps start (map_after m (before fold past)) f.starts caps opens)

  -- "query 21 for a day before the last fold, then 2"
  pub day_says : (day words : ℕ) → opening_says (day_opened j start day words) ≡ on_answer fold day (room_of m) words
  unfolding day_opened on_answer before_fold ◌when◌ answer opening_says given refused
  day_says day words =
      let mesh : Ok (caps_in start) ≡ opened start = both_mesh start j filed_both in
      rw (filed_both, filed_fold, sym (filed_room (caps_in start) mesh ∙ opened_room start j (caps_in start) mesh)) (go (ltb (day + 1) fold) (ltb words (room_of m)))
    where
      go : (a b : Bool) → opening_says (cond a (Err DayFolded) (cond b (Err MemoryShort) (Ok (caps_in start))))
          ≡ cond a (record { refusal = 21; values = [] }) (cond b (record { refusal = 2; values = [] }) (record { refusal = 0; values = [] }))
      go true b = refl
      go false true = refl
      go false false = refl
