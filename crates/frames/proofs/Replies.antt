-- From what a call answers to the line that is written.
use mathlib.Core.Path.{◌≡◌, refl, sym, ap, ◌∙◌}
use mathlib.Core.Bool.{Bool, true, false, cond, ◌||◌}
use mathlib.Core.List.{List, [], ◌∷◌, ◌++◌}
use Prim.Native.Nat.{ℕ, ◌≤◌}
use native.Mathlib.Omega.{arith}
use borrow.Author.Tests.{le-ltb}
use lib.Dec.{ltb}
use lib.ListN.{get_or, length}
use Rattle.numbers.specs.Half.{half_of}
use Rattle.map.specs.declared.Refusal.{Refusal}
use Rattle.map.specs.declared.Refusal.TheVariants.{BadFrame}
use Rattle.std.specs.Prelude.{Err}
use Rattle.map.specs.Siblings.{sibling}
use Rattle.map.specs.Ways.{way_number, way}
use Rattle.map.specs.Answers.{Check, Answer, ◌when◌, answer, list_answer, half_checks, sibling_answer}
use Rattle.map.specs.Says.{given, refused, verdict_says}
use Rattle.frames.specs.Frames.{Journal, begun, today, Format, Sibling, Bad, sibling_bytes, reply_to, journal_after}

-- a call that gives values tells of its checks, whatever they are asked for
module _ (value : ℕ) (more values : List ℕ) where
  answer_given : (checks : List Check) (n : ℕ) (rest : List ℕ) → given (n ∷ rest) ≡ answer checks (value ∷ more)
      → (n ∷ rest ≡ value ∷ more) × (answer checks values ≡ given values)
  unfolding given answer
  answer_given [] n rest e = (ap (λ (a : Answer). a.values) e, refl)
  answer_given (c ∷ cs) n rest e = go c.fails e (answer_given cs n rest)
    where
      go : (t : Bool) → given (n ∷ rest) ≡ cond t (record { refusal = c.number; values = [] }) (answer cs (value ∷ more))
          → (given (n ∷ rest) ≡ answer cs (value ∷ more) → (n ∷ rest ≡ value ∷ more) × (answer cs values ≡ given values))
          → (n ∷ rest ≡ value ∷ more) × (cond t (record { refusal = c.number; values = [] }) (answer cs values) ≡ given values)
      go true f next = let z : ◌≡◌ {A = List ℕ} (n ∷ rest) [] = ap (λ (a : Answer). a.values) f in let o : ◌≡◌ {A = ℕ} 0 1 = cc in absurd (omega arith)
      go false f next = next f

  answer_refused : (checks : List Check) (why : Refusal) → refused why ≡ answer checks (value ∷ more) → answer checks values ≡ refused why
  unfolding refused answer
  answer_refused [] why e = let z : ◌≡◌ {A = List ℕ} [] (value ∷ more) = ap (λ (a : Answer). a.values) e in let o : ◌≡◌ {A = ℕ} 0 1 = cc in absurd (omega arith)
  answer_refused (c ∷ cs) why e = go c.fails e (answer_refused cs why)
    where
      go : (t : Bool) → refused why ≡ cond t (record { refusal = c.number; values = [] }) (answer cs (value ∷ more))
          → (refused why ≡ answer cs (value ∷ more) → answer cs values ≡ refused why)
          → cond t (record { refusal = c.number; values = [] }) (answer cs values) ≡ refused why
      go true f next = sym f
      go false f next = next f

-- a last check that passes changes nothing
last_passes : (cs : List Check) (c : Check) (values : List ℕ) → c.fails ≡ false → answer (cs ++ (c ∷ [])) values ≡ answer cs values
unfolding answer
last_passes [] c values e = rw e
last_passes (d ∷ ds) c values e = rw (last_passes ds c values e)

-- a list that fits is never refused with 12
fitting : (checks : List Check) (l : List ℕ) (places : ℕ) → length l ≤ places → list_answer checks l places ≡ answer checks (length l ∷ [])
unfolding list_answer ◌when◌
fitting checks l places h = last_passes checks (12 when ltb places (length l)) (length l ∷ []) (le-ltb places (length l) h)

-- so a list that fits tells of its checks, whatever is written of it
module _ (checks : List Check) (l values : List ℕ) (places : ℕ) (h : length l ≤ places) where
  pub list_given : (n : ℕ) → given (n ∷ []) ≡ list_answer checks l places → (n ≡ length l) × (answer checks values ≡ given values)
  list_given n e =
      let r = answer_given (length l) [] values checks n [] (e ∙ fitting checks l places h) in
      (ap (λ (x : List ℕ). get_or x 0 0) r.0, r.1)

  pub list_refused : (why : Refusal) → refused why ≡ list_answer checks l places → answer checks values ≡ refused why
  list_refused why e = answer_refused (length l) [] values checks why (e ∙ fitting checks l places h)

module _ (g : Journal) (marks cells : ℕ) where
  -- "The program keeps at most 384 marks and 384 cells; more is refused with 1."
  pub journal_above : ltb 384 marks || ltb 384 cells ≡ true → journal_after g (Format marks cells) ≡ g
  unfolding journal_after reply_to answer ◌when◌
  journal_above e = rw e

  pub journal_format : ltb 384 marks || ltb 384 cells ≡ false → journal_after g (Format marks cells) ≡ begun g.places marks cells
  unfolding journal_after reply_to answer ◌when◌
  journal_format e = rw e

module _ (g : Journal) where
  bytes : ℕ → List ℕ
  bytes h = sibling_bytes (sibling (today g) h) (way_number (way (today g) h))

  pub reply_sibling : (c f h n : ℕ) → given (h ∷ n ∷ []) ≡ sibling_answer (today g) c f → reply_to g (Sibling c f) ≡ given (sibling_bytes h n)
  unfolding reply_to sibling_answer bytes
  reply_sibling c f h n e =
      let k : ℕ = half_of c f in
      let r = answer_given (sibling (today g) k) (way_number (way (today g) k) ∷ []) (bytes k) (half_checks (today g) c f) h (n ∷ []) e in
      let first : h ≡ sibling (today g) k = ap (λ (x : List ℕ). get_or x 0 0) r.0 in
      let second : n ≡ way_number (way (today g) k) = ap (λ (x : List ℕ). get_or x 1 0) r.0 in
      r.1 ∙ rw (first, second)

  pub reply_sibling_refused : (c f : ℕ) (why : Refusal) → refused why ≡ sibling_answer (today g) c f → reply_to g (Sibling c f) ≡ refused why
  unfolding reply_to sibling_answer bytes
  reply_sibling_refused c f why e =
      answer_refused (sibling (today g) (half_of c f)) (way_number (way (today g) (half_of c f)) ∷ []) (bytes (half_of c f)) (half_checks (today g) c f) why e

  pub reply_bad : reply_to g Bad ≡ verdict_says (Err BadFrame)
  unfolding reply_to answer ◌when◌ verdict_says refused
  reply_bad = refl
