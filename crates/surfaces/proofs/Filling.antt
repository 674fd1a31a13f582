-- Words read one after another and written to the first places of an output.
use mathlib.Core.Path.{◌≡◌, refl, sym, ap, ◌∙◌}
use mathlib.Core.List.{List, [], ◌∷◌}
use Prim.Native.Nat.{ℕ, suc, ◌+◌, ◌-◌, ◌<◌, ◌≤◌}
use native.Mathlib.Numerals.{add-one}
use native.Mathlib.Omega.{arith}
use lib.ListN.{length, set, length-set}
use lib.Seq.{sets}
use lib.IntN.{ℤ}
use mir.Syntax.{w16}
use mir.Val.{SFits, to_z, of_z}
use mir.ValLaws.{to_z-of_z}
use Rattle.off.specs.Words.{Word}
use Rattle.off.specs.Numbers.{Says, Is, Breaks, coordinate_of}
use Rattle.off.specs.Reading.{Read, Got, Stop, ◌then◌, one, many}
use Rattle.off.proofs.Signed.{coordinate_fits}
use Rattle.off_form.specs.Took.{left}

-- the first word of some that were read
module _ {A : Type 0} (f : List ℕ → Says A) (end k : ℕ) (l : List A) (ws us : List Word) (e : many f end (suc k) ws ≡ Got l us) where
  behind_first : (a : A) (r : Read (List A)) → (r then λ rest vs. Got (a ∷ rest) vs) ≡ Got l us → (m : List A) × (r ≡ Got m us) × (l ≡ a ∷ m)
  unfolding ◌then◌
  behind_first a (Got m vs) h = (m, ap (Got m) cc, cc)
  behind_first a (Stop p) h = let z : ◌≡◌ {A = ℕ} 0 1 = cc in absurd (omega arith)

  pub many_first : (a : A) (vs : List Word) → one f end ws ≡ Got a vs → (m : List A) × (many f end k vs ≡ Got m us) × (l ≡ a ∷ m)
  unfolding many ◌then◌
  many_first a vs h = behind_first a (many f end k vs) (rw h at e)

  pub many_some : (p : ℕ) → one f end ws ≡ Stop p → ⊥
  unfolding many ◌then◌
  many_some p h = let q = rw h at e in let z : ◌≡◌ {A = ℕ} 0 1 = cc in omega arith

pub many_nothing : {A : Type 0} (f : List ℕ → Says A) (end : ℕ) (l : List A) (ws us : List Word) → many f end 0 ws ≡ Got l us → (l ≡ []) × (ws ≡ us)
unfolding many
many_nothing f end l ws us e = (cc, cc)

-- i of n words have been written, and what is left of them says what is still to be written
pub record Filling {A : Type 0} (f : List ℕ → Says A) (text : List ℕ) (n from : ℕ) (o₀ : List A) (i at : ℕ) (o : List A) : Type 0 where
  pub size : length o ≡ length o₀
  pub rest : (l : List A) (ws : List Word) → many f (length text) n (left text from) ≡ Got l ws
      → (k : List A) × (many f (length text) (n - i) (left text at) ≡ Got k ws) × (sets o₀ 0 l ≡ sets o i k)

module _ {A : Type 0} (f : List ℕ → Says A) (text : List ℕ) (n from : ℕ) (o₀ : List A) where
  pub fill_start : Filling f text n from o₀ 0 from o₀
  fill_start = record { size = refl; rest = λ l ws e. let z : n - 0 ≡ n = omega arith in (l, rw z e, refl) }

  module _ (i at : ℕ) (o : List A) (g : Filling f text n from o₀ i at o) where
    last : i < n → n - i ≡ suc (n - suc i)
    last h = omega arith

    pub fill_next : i < n → (a : A) (next : ℕ) → one f (length text) (left text at) ≡ Got a (left text next) → (b : A) → b ≡ a → (o' : List A) → o' ≡ set o i b
        → (i' : ℕ) → i' ≡ i + 1 → Filling f text n from o₀ i' next o'
    fill_next h a next e b q o' eo i' ei =
        let one_more : i' ≡ suc i = ei ∙ add-one i in
        rw (one_more, eo, q) (record {
          size = length-set o i a ∙ g.size;
          rest = λ l ws r.
              let s = g.rest l ws r in
              let more = many_first f (length text) (n - suc i) s.0 (left text at) ws (rw (last h) at s.1) a (left text next) e in
              (more.0, more.1, s.2 ∙ ap (sets o i) more.2);
        })

    -- in a text of the form no word breaks it
    pub fill_stops : i < n → (p : ℕ) → one f (length text) (left text at) ≡ Stop p → (l : List A) (ws : List Word)
        → many f (length text) n (left text from) ≡ Got l ws → ⊥
    fill_stops h p e l ws r =
        let s = g.rest l ws r in
        many_some f (length text) (n - suc i) s.0 (left text at) ws (rw (last h) at s.1) p e

    pub fill_done : n ≤ i → (l : List A) (ws : List Word) → many f (length text) n (left text from) ≡ Got l ws → (left text at ≡ ws) × (o ≡ sets o₀ 0 l)
    fill_done h l ws r =
        let s = g.rest l ws r in
        let z : n - i ≡ 0 = omega arith in
        let none = many_nothing f (length text) s.0 (left text at) ws (rw z at s.1) in
        (none.1, sym (s.2 ∙ ap (sets o i) none.0))

-- a coordinate that was read is a signed 16-bit number
pub one_fits : (end : ℕ) (ws us : List Word) (z : ℤ) → one coordinate_of end ws ≡ Got z us → SFits w16 z
unfolding one
one_fits end [] us z e = let o : ◌≡◌ {A = ℕ} 0 1 = cc in absurd (omega arith)
one_fits end (w ∷ ws) us z e = coordinate_fits w.bytes z (said (coordinate_of w.bytes) e)
  where
    said : (s : Says ℤ) → elim s [ Is a ↦ Got a ws | Breaks ↦ Stop w.place ] ≡ Got z us → s ≡ Is z
    said (Is a) h = cc
    said Breaks h = let o : ◌≡◌ {A = ℕ} 0 1 = cc in absurd (omega arith)

pub one_back : (end : ℕ) (ws us : List Word) (z : ℤ) → one coordinate_of end ws ≡ Got z us → to_z w16 (of_z w16 z) ≡ z
one_back end ws us z e = to_z-of_z w16 z (one_fits end ws us z e)
