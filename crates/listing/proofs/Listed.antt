-- A listing query: refused by what opens it, or the list given out.
use mathlib.Core.Path.{◌≡◌, refl, sym, ap, ◌∙◌}
use mathlib.Core.Bool.{true, false}
use mathlib.Core.List.{List, [], ◌∷◌, ◌++◌}
use Prim.Native.Nat.{ℕ, ◌+◌, ◌-◌, ◌<◌, ◌≤◌}
use native.Mathlib.Decide.{dec_lt}
use native.Mathlib.Omega.{arith}
use borrow.Author.Tests.{lt-ltb, le-ltb, ne_eqb}
use lib.Dec.{ltb}
use lib.ListN.{get_or, length, drop, length-append, length-drop}
use lib.Seq.{get_or-append-add, get_or-drop}
use Rattle.lists.proofs.Mapped.{copied_list}
use Rattle.lists.specs.Lists.{list_of}
use Rattle.lists.specs.Filled.{Copied}
use Rattle.lists.proofs.Bools.{clash}
use Rattle.lists.proofs.Fill.{filled_take, length_list_of, list_of_take}
use Rattle.words.specs.Words.{Only}
use Rattle.numbers.specs.declared.Caps.{Caps}
use Rattle.std.specs.Prelude.{Result, ⊤, Ok, Err}
use Rattle.store.specs.Open.{opened}
use Rattle.map.specs.Cells.{Map}
use Rattle.map.specs.Answers.{Check, Answer, ◌when◌, answer, list_answer}
use Rattle.map.specs.Says.{number_of, given, refused, value_says, verdict_says}
use Rattle.map.specs.declared.Refusal.{Refusal}
use Rattle.map.specs.declared.Refusal.TheVariants.{NotMesh, OutputShort}
use Rattle.picture.specs.Picture.{Wf}
use Rattle.checks.specs.Checked.{Checked}
use Rattle.map.proofs.Refusals.{number_some}
use Rattle.checks.proofs.Values.{Numbered, refused_more, given_more}
use Rattle.map.specs.Stars.{star, anchors}
use Rattle.shapes.specs.Table.{table}
use Rattle.group.specs.Group.{Around}
use Rattle.map.specs.Answers.{star_checks}
use Rattle.picture.specs.State.{State, state_of}
use Rattle.picture.proofs.Settles.{wf_pic, wf_settled, wf_map}
use Rattle.star.specs.Listed.{Gives, AtMark}
use Rattle.checks.proofs.Rows.{marks_of_lem}
use Rattle.checks.proofs.Passed.{star_passed}
use Rattle.checks.specs.Opening.{Opens}
use Rattle.checks.proofs.Opens.{mesh_opened, wf_caps}
use Rattle.listing.specs.Listing.{listed, ListingIn, Listing, GivenIn, Given}
use Rattle.numbers.specs.Sizes.{most_around}

-- a refused answer lists nothing
listed_refused : (a : Answer) (why : Refusal) (l o : List ℕ) → refused why ≡ a → o ≡ listed a l o
unfolding listed refused
listed_refused a why l o e = rw (← e, ne_eqb (number_of why) 0 (λ z. omega (arith, number_some why)))

-- a refusal gives no count, and a count is no refusal
not_given : (n : ℕ) (why : Refusal) → Err why ≡ Ok n → ⊥
not_given n why e = let z : ◌≡◌ {A = ℕ} 0 1 = cc in omega arith

count_one : (n k : ℕ) → ◌≡◌ {A = Result ℕ Refusal} (Ok n) (Ok k) → n ≡ k
count_one n k e = cc

-- a list in the first places of an output changes only those
pub first_only : (l o o' : List ℕ) (n : ℕ) → length l ≤ n → n ≤ length o → o' ≡ l ++ drop (length l) o → Only (λ i. i < n) o o'
first_only l o o' n a b e = record {
  size = rw (e, length-append, length-drop) (omega arith);
  same = λ i f.
      let z : length l + (i - length l) ≡ i = omega arith in
      rw e (ap (λ (k : ℕ). get_or (l ++ drop (length l) o) k 0) (sym z) ∙ (get_or-append-add l (drop (length l) o) (i - length l) 0 ∙ (get_or-drop (length l) o (i - length l) 0 ∙ ap (λ (k : ℕ). get_or o k 0) z)));
}

module _ (places : ℕ) (w : List ℕ) (checks : Map → List Check) (list : Map → List ℕ) (o : List ℕ) where
  -- refused: no mesh, or by the checks
  pub fitted_refused : (opening : Result Caps Refusal) → Opens w checks opening → (why : Refusal) → opening ≡ Err why
      → ListingIn places w checks list o (Err why) o
  unfolding list_answer value_says
  fitted_refused opening k why q = record {
    refused = λ none. ap Err (k.no_mesh why q none);
    kept = λ other q. refl;
    first = λ n q. absurd (not_given n why q);
    answers = λ m wf.
        let a = refused_more (checks m) ((12 when ltb places (length (list m))) ∷ []) why (length (list m) ∷ []) (k.fails why q m wf) in
        (a, listed_refused (answer (checks m ++ ((12 when ltb places (length (list m))) ∷ [])) (length (list m) ∷ [])) why (list m) o a);
  }

  module _ (caps : Caps) (opens : Ok caps ≡ opened w) (verdict : Result ⊤ Refusal) (checked : Checked w caps checks verdict) where
    module _ (v : verdict ≡ (Ok tt)) (numbered : (m : Map) → Numbered (checks m)) where
      behind : (m : Map) → Wf w m
          → answer ((12 when ltb places (length (list m))) ∷ []) (length (list m) ∷ []) ≡ list_answer (checks m) (list m) places
      unfolding list_answer verdict_says
      behind m wf =
          given_more (checks m) ((12 when ltb places (length (list m))) ∷ []) (length (list m) ∷ []) (numbered m)
          (ap verdict_says (sym v) ∙ checked.says m (wf_caps w m wf caps opens) wf)

      -- the output is shorter than the list
      pub fitted_short : (n : ℕ) → places < n → ((m : Map) → m.caps ≡ caps → Wf w m → n ≡ length (list m))
          → ListingIn places w checks list o (Err OutputShort) o
      unfolding ◌when◌ answer value_says refused listed
      fitted_short n h counts = record {
        refused = λ none. absurd (clash (mesh_opened w caps opens).0 none);
        kept = λ why q. refl;
        first = λ n q. absurd (not_given n OutputShort q);
        answers = λ m wf.
            let p = counts m (wf_caps w m wf caps opens) wf in
            let short : ltb places (length (list m)) ≡ true = lt-ltb places (length (list m)) (omega (arith, p)) in
            rw (← behind m wf, short) (refl, refl);
      }

      -- the list stands in the first places of the output
      pub fitted_wrote : (n : ℕ) (o' : List ℕ) → n ≤ places → places ≤ length o → Only (λ i. i < n) o o'
          → ((m : Map) → m.caps ≡ caps → Wf w m → (n ≡ length (list m)) × (o' ≡ list m ++ drop (length (list m)) o))
          → ListingIn places w checks list o (Ok n) o'
      unfolding ◌when◌ answer value_says given listed
      fitted_wrote n o' h fit only written = record {
        refused = λ none. absurd (clash (mesh_opened w caps opens).0 none);
        kept = λ why q. absurd (not_given n why (sym q));
        first = λ k q. rw (← count_one n k q) (omega arith, only);
        answers = λ m wf.
            let p = written m (wf_caps w m wf caps opens) wf in
            let fits : ltb places (length (list m)) ≡ false = le-ltb places (length (list m)) (omega (arith, p.0)) in
            rw (← behind m wf, fits) (ap (λ (k : ℕ). record { refusal = 0; values = k ∷ [] }) p.0, p.1);
      }

      module _ (zeros from : List ℕ) (n : ℕ) (room : (m : Map) → m.caps ≡ caps → Wf w m → n ≤ length zeros)
          (lists : (m : Map) → m.caps ≡ caps → Wf w m → Copied (list m) zeros n from) where
        -- the first n numbers are the list
        whole : (m : Map) → m.caps ≡ caps → Wf w m → (n ≡ length (list m)) × (list_of n (λ i. get_or from i 0) ≡ list m)
        whole m e wf =
            ((lists m e wf).count, copied_list (list m) zeros from n (room m e wf) (lists m e wf))

        pub fitted_given : (r : Result ℕ Refusal) (o' : List ℕ) → places ≤ length o → GivenIn places from n o r o' → ListingIn places w checks list o r o'
        fitted_given r o' fit g = go (dec_lt places n)
          where
            gives : n ≤ places → (m : Map) → m.caps ≡ caps → Wf w m → (n ≡ length (list m)) × (o' ≡ list m ++ drop (length (list m)) o)
            gives h m e wf =
                let p = whole m e wf in
                (p.0, rw (← p.1, length_list_of) (g.fits h).1)

            only : n ≤ places → Only (λ i. i < n) o o'
            only h =
                let size = length_list_of n (λ i. get_or from i 0) in
                first_only (list_of n (λ i. get_or from i 0)) o o' n (omega (arith, size)) (omega arith) (rw size (g.fits h).1)

            go : Dec (places < n) → ListingIn places w checks list o r o'
            go (yes h) = rw ((g.short h).0, (g.short h).1) (fitted_short n h (λ m e wf. (lists m e wf).count))
            go (no f) = rw (g.fits (omega arith)).0 (fitted_wrote n o' (omega arith) fit (only (omega arith)) (gives (omega arith)))

-- in as many places as the output has
module _ (w : List ℕ) (checks : Map → List Check) (list : Map → List ℕ) (o : List ℕ) where
  pub listing_refused : (opening : Result Caps Refusal) → Opens w checks opening → (why : Refusal) → opening ≡ Err why
      → Listing w checks list o (Err why) o
  listing_refused = fitted_refused (length o) w checks list o

  module _ (caps : Caps) (opens : Ok caps ≡ opened w) (verdict : Result ⊤ Refusal) (checked : Checked w caps checks verdict) where
    module _ (v : verdict ≡ (Ok tt)) (numbered : (m : Map) → Numbered (checks m)) where
      pub listing_short : (n : ℕ) → length o < n → ((m : Map) → m.caps ≡ caps → Wf w m → n ≡ length (list m))
          → Listing w checks list o (Err OutputShort) o
      listing_short = fitted_short (length o) w checks list o caps opens verdict checked v numbered

      pub listing_wrote : (n : ℕ) (o' : List ℕ) → n ≤ length o → Only (λ i. i < n) o o'
          → ((m : Map) → m.caps ≡ caps → Wf w m → (n ≡ length (list m)) × (o' ≡ list m ++ drop (length (list m)) o))
          → Listing w checks list o (Ok n) o'
      listing_wrote n o' h = fitted_wrote (length o) w checks list o caps opens verdict checked v numbered n o' h (omega arith)

      pub listing_given : (zeros from : List ℕ) (n : ℕ) → ((m : Map) → m.caps ≡ caps → Wf w m → n ≤ length zeros)
          → ((m : Map) → m.caps ≡ caps → Wf w m → Copied (list m) zeros n from) → (r : Result ℕ Refusal) (o' : List ℕ) → Given from n o r o' → Listing w checks list o r o'
      listing_given zeros from n room lists r o' =
          fitted_given (length o) w checks list o caps opens verdict checked v numbered zeros from n room lists r o' (omega arith)

-- what a reader gives on the state of a map
pub gives_list : (w : List ℕ) (caps : Caps) (most : ℕ) (ok : State → Type 0) (list : Map → List ℕ) (o o' : List ℕ) (r : ℕ) → Gives w caps most ok list o r o'
    → (m : Map) (e : m.caps ≡ caps) (wf : Wf w m) → ok (state_of m) → Copied (list m) o r o'
gives_list w caps most ok list o o' r g m e wf k = rw (wf_map w caps m e wf) at (g.gives (state_of m) (wf_pic w caps m e wf) k)

-- the star of a mark that passed its checks
pub star_lists : (w : List ℕ) (caps : Caps) (d v : ℕ) (verdict : Result ⊤ Refusal) → Checked w caps (λ m. star_checks m d v) verdict → verdict ≡ (Ok tt)
    → (zeros from : List ℕ) (n : ℕ) → Gives w caps most_around (AtMark caps v) (λ m. star m d v) zeros n from
    → (m : Map) → m.caps ≡ caps → Wf w m → Copied (star m d v) zeros n from
star_lists w caps d v verdict k a zeros from n g m e wf =
    gives_list w caps most_around (AtMark caps v) (λ m. star m d v) zeros from n g m e wf
    (record { ready = (wf_settled w caps m e wf).ready; mark = omega (arith, (star_passed w caps verdict a m e wf d v k).2, marks_of_lem caps m e) })

-- the anchors of a mark that passed its checks
pub anchors_list : (w : List ℕ) (caps : Caps) (d v : ℕ) (verdict : Result ⊤ Refusal) → Checked w caps (λ m. star_checks m d v) verdict → verdict ≡ (Ok tt)
    → (rows : List (List (List ℕ))) → rows ≡ table
    → (zeros from : List ℕ) (n : ℕ) → Gives w caps most_around (Around caps rows v) (λ m. anchors m d v) zeros n from
    → (m : Map) → m.caps ≡ caps → Wf w m → Copied (anchors m d v) zeros n from
anchors_list w caps d v verdict k a rows t zeros from n g m e wf =
    gives_list w caps most_around (Around caps rows v) (λ m. anchors m d v) zeros from n g m e wf
    (record {
      settled = wf_settled w caps m e wf;
      types = t;
      mark = omega (arith, (star_passed w caps verdict a m e wf d v k).2, marks_of_lem caps m e);
    })
