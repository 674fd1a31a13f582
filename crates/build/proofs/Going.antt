-- The records so far: the map that they make, and what is left of the build.
use mathlib.Core.Path.{◌≡◌, refl, sym, ap, ◌∙◌, subst}
use mathlib.Core.List.{List, [], ◌∷◌}
use Prim.Native.Nat.{ℕ, suc, ◌+◌, ◌-◌, ◌<◌, ◌≤◌, min}
use native.Mathlib.Decide.{dec_lt}
use native.Mathlib.Numerals.{add-one}
use native.Mathlib.Omega.{arith}
use borrow.Author.Tests.{eq-eqb, ne_eqb}
use lib.ListN.{length, get_or, take, drop, length-drop, drop_of_length-le}
use Rattle.lists.specs.Lists.{select}
use Rattle.lists.proofs.Select.{select_size}
use Rattle.lists.proofs.Counts.{select_none, select_more}
use Rattle.numbers.specs.Room.{room}
use Rattle.numbers.specs.Sizes.{most_capacity, caps_under}
use Rattle.numbers.specs.declared.Caps.{Caps}
use Rattle.words.specs.Words.{Only}
use Rattle.words.proofs.Frame.{only_none, only_then}
use Rattle.shapes.specs.Shapes.{shape}
use Rattle.store.specs.Open.{room_in}
use Rattle.map.specs.Cells.{Body, licensed_body, Map, no_cell, body_in, map_of, live}
use Rattle.map.specs.Answers.{Answer, answer, format_checks}
use Rattle.map.specs.History.{empty, Insert, edit_answer, put, changed, Outcome, build_from, build}
use Rattle.map.specs.Says.{number_of, given, refused, verdict_says, built_says, RefusedAt}
use Rattle.map.specs.declared.Refusal.{Refusal}
use Rattle.map.specs.declared.Refusal.TheVariants.{CountWrong}
use Rattle.std.specs.Prelude.{Result, ⊤, Ok, Err}
use Rattle.map.proofs.Says.{verdict_one}
use Rattle.laws.proofs.Edits.{MayInsert, may_insert, edited_changed, typed_coded}
use Rattle.map.proofs.Refusals.{number_some}
use Rattle.checks.proofs.Opens.{head_marks, head_cells}
use Rattle.picture.specs.Picture.{Wf}
use Rattle.format.specs.Formatted.{Formatted}
use Rattle.mesh.specs.Edited.{Edited}
use Rattle.build.specs.Builds.{placed, format_refusal, build_answer, Builds}
use Rattle.build.specs.Recorded.{width, between, Recorded}
use Rattle.build.proofs.Records.{three_words, end_short, marks_taken, next_words}
use Rattle.build.proofs.Turns.{turn_end, turn_short, turn_made, turn_refused}

-- the capacities stand in the head
head_room : (w : List ℕ) (m : Map) → Wf w m → room_in w ≡ room m.caps.marks m.caps.cells
head_room w m wf = rw (head_marks w m wf, head_cells w m wf)

-- how many cells are live
unfoldable pub live_count : Map → ℕ
live_count m = length (select (live m) m.caps.cells)

live_empty : (caps : Caps) → live_count (empty caps) ≡ 0
unfolding live_count empty map_of body_in no_cell live
live_empty caps = rw (select_none _ _ (λ k. refl))

live_most : (w : List ℕ) (m : Map) → Wf w m → live_count m ≤ most_capacity
unfolding live_count
live_most w m wf = omega (arith, select_size (live m) m.caps.cells, wf.picture.cells)

live_more : (m : Map) (c : ℕ) (x : Body) → MayInsert m c x → live_count (changed m (Insert c x)) ≡ suc (live_count m)
unfolding live_count changed put live
live_more m c x r =
    select_more (live m) (live (changed m (Insert c x))) c m.caps.cells r.number r.free
    (rw (eq-eqb c c refl) (typed_coded x.code r.typed)) (λ k ne. rw (ne_eqb c k ne))

-- the records up to a place, since the format
pub record Going (w₁ : List ℕ) (caps : Caps) (records : List ℕ) (at place : ℕ) (w : List ℕ) : Type 0 where
  pub map : Map
  pub fuel : ℕ
  pub of_caps : map.caps ≡ caps
  pub enough : length records ≤ fuel + at
  pub rest : build caps records ≡ build_from fuel place map (drop at records)
  pub wf : Wf w map
  pub count : place ≡ live_count map
  pub inside : Only (λ i. i < room caps.marks caps.cells) w₁ w

-- the number of a format's refusal
format_number : (w : List ℕ) (caps : Caps) (why : Refusal) → verdict_says (Err why) ≡ answer (format_checks (length w) caps) []
    → format_refusal (length w) caps ≡ number_of why
unfolding format_refusal verdict_says refused
format_number w caps why e = sym (ap (λ (a : Answer). a.refusal) e)

module _ (caps : Caps) (records : List ℕ) where
  -- the format refused
  pub build_refused : (w₀ w₁ : List ℕ) (v : Result ⊤ Refusal) → Formatted w₀ caps v w₁ → (why : Refusal) → v ≡ Err why → (p : ℕ) → p ≡ 0
      → Builds w₀ caps records (RefusedAt why p) w₁
  unfolding built_says build_answer placed
  build_refused w₀ w₁ v f why e p z =
      let number = format_number w₀ caps why (ap verdict_says (sym e) ∙ f.says) in
      let some : number_of why ≡ 0 → ⊥ = λ n. omega (arith, number_some why) in
      record {
        says = rw (number, ne_eqb (number_of why) 0 some, z);
        kept = λ n. f.kept why e;
        inside = f.inside;
        wf = λ n. absurd (some (sym number ∙ n));
      }

  -- the format accepted, and then so many records
  module _ (w₀ w₁ : List ℕ) (v : Result ⊤ Refusal) (f : Formatted w₀ caps v w₁) (ok : v ≡ (Ok tt)) where
    accepted : verdict_says (Ok tt) ≡ answer (format_checks (length w₀) caps) []
    accepted = ap verdict_says (sym ok) ∙ f.says

    formatted : format_refusal (length w₀) caps ≡ 0
    unfolding format_refusal verdict_says given
    formatted = sym (ap (λ (a : Answer). a.refusal) accepted)

    -- the answer of a build with this outcome
    outcome_says : (o : Outcome) → build caps records ≡ o → build_answer (length w₀) caps records ≡ placed o.refusal o.place
    unfolding build_answer
    outcome_says o e = rw (formatted, e)

    pub going_start : (at place : ℕ) → at ≡ 0 → place ≡ 0 → Going w₁ caps records at place w₁
    unfolding build empty map_of
    going_start at place z p = rw (z, p) (record {
      map = empty caps;
      fuel = length records;
      of_caps = refl;
      enough = omega arith;
      rest = refl;
      wf = f.wf ok;
      count = sym (live_empty caps);
      inside = only_none;
    })

    -- no words left
    pub build_done : (at place : ℕ) (w : List ℕ) → Going w₁ caps records at place w → length records ≤ at
        → Builds w₀ caps records (Ok tt) w
    unfolding placed built_says given
    build_done at place w g h = record {
      says = sym (outcome_says _ done);
      kept = λ n. absurd (n formatted);
      inside = only_then f.inside g.inside;
      wf = λ n. rw done g.wf;
    }
      where
        done : build caps records ≡ record { refusal = 0; place = 0; map = g.map }
        done = g.rest ∙ (rw (drop_of_length-le records {i = at} h) (turn_end place g.map g.fuel))

    -- a record refused, and the memory formatted again
    pub build_stopped : (why : Refusal) (place : ℕ) → build caps records ≡ record { refusal = number_of why; place = place; map = empty caps }
        → (w w' : List ℕ) → Only (λ i. i < room caps.marks caps.cells) w₁ w → (again : Result ⊤ Refusal) (i n k : ℕ) → Formatted w (caps_under i n k) again w'
        → i ≡ caps.edition → n ≡ caps.marks → k ≡ caps.cells → (p : ℕ) → p ≡ place → Builds w₀ caps records (RefusedAt why p) w'
    unfolding placed built_says
    build_stopped why place stops w w' inside again i n k second ei en ek p ep = record {
      says = rw (outcome_says _ stops, ep, ne_eqb (number_of why) 0 (λ n. omega (arith, number_some why)));
      kept = λ n. absurd (n formatted);
      inside = only_then f.inside (only_then inside anew.inside);
      wf = λ n. rw stops (anew.wf (verdict_one again (Ok tt) says));
    }
      where
        size : length w ≡ length w₀
        size = inside.size ∙ f.inside.size

        anew : Formatted w caps again w'
        anew = rw (ei, en, ek) at second

        says : verdict_says again ≡ verdict_says (Ok tt)
        says = anew.says ∙ (rw size (sym accepted))

  module _ (w₁ : List ℕ) (at place : ℕ) (w : List ℕ) (g : Going w₁ caps records at place w) where
    -- the places are few
    pub going_few : place ≤ most_capacity
    going_few = omega (arith, g.count, live_most w g.map g.wf)

    -- a record more
    module _ (more : at < length records) (end : ℕ) (ends : end ≡ min (at + width records at) (length records))
        (v : Result ⊤ Refusal) (w' : List ℕ) (did : Recorded w records at end v w') where
      rooms : room_in w ≡ room caps.marks caps.cells
      rooms = head_room w g.map g.wf ∙ (rw g.of_caps)

      went : Only (λ i. i < room caps.marks caps.cells) w₁ w'
      went = go (dec_lt end (at + 3))
        where
          go : Dec (end < at + 3) → Only (λ i. i < room caps.marks caps.cells) w₁ w'
          go (yes l) = rw (did.short l).1 g.inside
          go (no l) = only_then g.inside (subst (λ (k : ℕ). Only (λ i. i < k) w w') rooms (did.whole (omega arith)).inside)

      some : 1 ≤ g.fuel
      some = omega (arith, g.enough)

      -- the record as the outline reads it
      c : ℕ
      c = get_or records at 0

      t : ℕ
      t = get_or records (at + 1) 0

      licence : ℕ
      licence = get_or records (at + 2) 0

      left : List ℕ
      left = drop (at + 3) records

      abbrev x : Body
      x = licensed_body t licence (take (shape t).marks left)

      module _ (long : at + 3 ≤ end) where
        whole : Edited w (Insert c x) v w'
        unfolding between c t licence left
        whole = rw (marks_taken records at end ends long) at (did.whole long)

        says : verdict_says v ≡ edit_answer g.map (Insert c x)
        says = (whole.answers g.map g.wf).0

        words : drop at records ≡ c ∷ t ∷ licence ∷ left
        unfolding c t licence left
        words = three_words records at (omega arith)

        behind : length (take (shape t).marks left) ≡ (shape t).marks → drop (shape t).marks left ≡ drop end records
        unfolding c t left
        behind h = next_words records at end ends long (ap length (marks_taken records at end ends long) ∙ h)

        refused_words : (why : Refusal) → v ≡ Err why
            → build_from g.fuel place g.map (drop at records)
            ≡ record { refusal = number_of why; place = place; map = empty g.map.caps }
        unfolding verdict_says refused
        refused_words why e =
            rw words (turn_refused place g.map c t licence left g.fuel some why
            (ap (λ (a : Answer). a.refusal) (ap verdict_says (sym e) ∙ says)))

      short_words : end < at + 3 → (why : Refusal) → v ≡ Err why
          → build_from g.fuel place g.map (drop at records)
          ≡ record { refusal = number_of why; place = place; map = empty g.map.caps }
      short_words l why e =
          let same : why ≡ CountWrong = cc (did.short l).0 in
          rw same
          (turn_short place g.map g.fuel some (drop at records) (omega (arith, more, length-drop at records))
          (omega (arith, length-drop at records, end_short records at end ends more l)))

      -- refused: the build ends with its place
      pub going_refused : (why : Refusal) → v ≡ Err why
          → (build caps records ≡ record { refusal = number_of why; place = place; map = empty caps })
          × Only (λ i. i < room caps.marks caps.cells) w₁ w'
      going_refused why e = (g.rest ∙ (go (dec_lt end (at + 3)) ∙ (rw g.of_caps)), went)
        where
          go : Dec (end < at + 3) → build_from g.fuel place g.map (drop at records)
              ≡ record { refusal = number_of why; place = place; map = empty g.map.caps }
          go (yes l) = short_words l why e
          go (no l) = refused_words (omega arith) why e

      -- accepted: the next one
      accepted_long : v ≡ (Ok tt) → at + 3 ≤ end
      accepted_long e = go (dec_lt end (at + 3))
        where
          go : Dec (end < at + 3) → at + 3 ≤ end
          go (yes l) = let z : ◌≡◌ {A = ℕ} 0 1 = cc (did.short l).0 in absurd (omega arith)
          go (no l) = omega arith

      pub going_next : v ≡ (Ok tt) → (at' place' : ℕ) → at' ≡ end → place' ≡ place + 1 → Going w₁ caps records at' place' w'
      unfolding changed put verdict_says given
      going_next e at' place' ea ep = rw (ea, ep) (record {
        map = changed g.map (Insert c x);
        fuel = g.fuel - 1;
        of_caps = g.of_caps;
        enough = omega (arith, g.enough, some, long);
        rest = g.rest ∙ rest;
        wf = subst (λ (m : Map). Wf w' m) (edited_changed g.map (Insert c x) zero) ((whole long).answers g.map g.wf).1;
        count = add-one place ∙ (ap suc g.count ∙ sym (live_more g.map c x may));
        inside = went;
      })
        where
          long : at + 3 ≤ end
          long = accepted_long e

          zero : (edit_answer g.map (Insert c x)).refusal ≡ 0
          zero = sym (ap (λ (a : Answer). a.refusal) (ap verdict_says (sym e) ∙ says long))

          may : MayInsert g.map c x
          may = may_insert g.map c x zero

          rest : build_from g.fuel place g.map (drop at records)
              ≡ build_from (g.fuel - 1) (place + 1) (changed g.map (Insert c x)) (drop end records)
          rest =
              rw (words long) (turn_made place g.map c t licence left g.fuel some zero)
              ∙ ap (build_from (g.fuel - 1) (place + 1) (changed g.map (Insert c x))) (behind long may.count)
