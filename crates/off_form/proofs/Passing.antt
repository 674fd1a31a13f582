-- Words passed over one after another.
use mathlib.Core.Path.{◌≡◌, refl, sym, ap, ◌∙◌}
use mathlib.Core.List.{List, [], ◌∷◌, ◌++◌}
use Prim.Native.Nat.{ℕ, suc, ◌+◌, ◌-◌, ◌<◌, ◌≤◌}
use native.Mathlib.Numerals.{add-one}
use native.Mathlib.Omega.{arith}
use Rattle.std.specs.Prelude.{Result, Ok, Err}
use lib.ListN.{length}
use Rattle.off.specs.Words.{Word}
use Rattle.off.specs.Numbers.{Says, number_of, size_of}
use Rattle.off.specs.Reading.{Read, Got, Stop, ◌then◌, one, many, face_code, face, faces}
use Rattle.off.specs.declared.Cursor.{Cursor}
use Rattle.off_form.specs.Took.{left, took, Went, On, Broke, went, went_says}
use Rattle.off_form.specs.declared.Broken.{Broken}

-- what the code carries, case by case
module _ (text : List ℕ) where
  pub took_stopped : {A : Type 0} (r : Result (A × Cursor) Broken) (x : Read A) → took text r ≡ x → (b : Broken) → r ≡ Err b → x ≡ Stop b.place
  unfolding took
  took_stopped r x e b h = sym e ∙ ap (took text) h

  pub took_got : {A : Type 0} (r : Result (A × Cursor) Broken) (x : Read A) → took text r ≡ x → (a : A) (c : Cursor) → r ≡ Ok (a, c) → x ≡ Got a (left text c.at)
  unfolding took
  took_got r x e a c h = sym e ∙ ap (took text) h

  pub passed_stopped : (r : Result Cursor Broken) (x : Went) → went_says text r ≡ x → (b : Broken) → r ≡ Err b → x ≡ Broke b.place
  unfolding went_says
  passed_stopped r x e b h = sym e ∙ ap (went_says text) h

  pub passed_on : (r : Result Cursor Broken) (x : Went) → went_says text r ≡ x → (c : Cursor) → r ≡ Ok c → x ≡ On (left text c.at)
  unfolding went_says
  passed_on r x e c h = sym e ∙ ap (went_says text) h

-- where a reading went
pub went_got : {A : Type 0} (r : Read A) (ws : List Word) → went r ≡ On ws → (a : A) × (r ≡ Got a ws)
unfolding went
went_got (Got a us) ws e = (a, ap (Got a) cc)
went_got (Stop p) ws e = let z : ◌≡◌ {A = ℕ} 0 1 = cc in absurd (omega arith)

pub went_stop : {A : Type 0} (r : Read A) (p : ℕ) → went r ≡ Broke p → r ≡ Stop p
unfolding went
went_stop (Got a us) p e = let z : ◌≡◌ {A = ℕ} 0 1 = cc in absurd (omega arith)
went_stop (Stop q) p e = ap Stop cc

-- what is made of what was read does not change where it went
went_then : {A B : Type 0} (g : A → B) (r : Read A) → went (r then λ a ws. Got (g a) ws) ≡ went r
unfolding went ◌then◌
went_then g (Got a ws) = refl
went_then g (Stop p) = refl

many_on : {A : Type 0} (f : List ℕ → Says A) (end k : ℕ) (a : A) (ws us : List Word) → one f end ws ≡ Got a us
    → went (many f end (suc k) ws) ≡ went (many f end k us)
unfolding many ◌then◌
many_on f end k a ws us e = rw e (went_then (λ l. a ∷ l) (many f end k us))

many_broke : {A : Type 0} (f : List ℕ → Says A) (end k : ℕ) (ws : List Word) (p : ℕ) → one f end ws ≡ Stop p → went (many f end (suc k) ws) ≡ Broke p
unfolding many ◌then◌ went
many_broke f end k ws p e = rw e

pub many_none : {A : Type 0} (f : List ℕ → Says A) (end : ℕ) (ws : List Word) → many f end 0 ws ≡ Got [] ws
unfolding many
many_none f end ws = refl

less_one : (n i : ℕ) → i < n → n - i ≡ suc (n - (i + 1))
less_one n i h = omega arith

-- so many words from a cursor on, each as f reads it: X is where they all go
pub many_start : {A : Type 0} (f : List ℕ → Says A) (text : List ℕ) (n at : ℕ)
    → went (many f (length text) n (left text at)) ≡ went (many f (length text) (n - 0) (left text at))
many_start f text n at = let e : n - 0 ≡ n = omega arith in rw e

module _ {A : Type 0} (f : List ℕ → Says A) (X : Went) (text : List ℕ) (n i at : ℕ) (inv : X ≡ went (many f (length text) (n - i) (left text at))) where
  pub many_halts : i < n → (b : Broken) → one f (length text) (left text at) ≡ Stop b.place → went_says text (Err b) ≡ X
  unfolding went_says
  many_halts h b e = sym (inv ∙ (rw (less_one n i h) (many_broke f (length text) (n - (i + 1)) (left text at) b.place e)))

  pub many_goes : i < n → (a : A) (g : ℕ) → one f (length text) (left text at) ≡ Got a (left text g) → X ≡ went (many f (length text) (n - (i + 1)) (left text g))
  many_goes h a g e =
      inv ∙ (ap (λ (k : ℕ). went (many f (length text) k (left text at))) (less_one n i h) ∙ many_on f (length text) (n - (i + 1)) a (left text at) (left text g) e)

  pub many_done : n ≤ i → (c : Cursor) → c.at ≡ at → went_says text (Ok c) ≡ X
  unfolding went_says went many
  many_done h c e = let none : n - i ≡ 0 = omega arith in rw e (sym (inv ∙ rw none))

-- a face: its size, then its marks
module _ (text : List ℕ) (at c : ℕ) where
  pub face_halts : (b : Broken) → one size_of (length text) (left text at) ≡ Stop b.place → went_says text (Err b) ≡ went (face (length text) c (left text at))
  unfolding went_says went face ◌then◌
  face_halts b e = rw e

  pub face_goes : (size g : ℕ) → one size_of (length text) (left text at) ≡ Got size (left text g)
      → went (many number_of (length text) size (left text g)) ≡ went (face (length text) c (left text at))
  unfolding face ◌then◌
  face_goes size g e = rw e (sym (went_then (λ marks. c ∷ face_code size ∷ 0 ∷ marks) (many number_of (length text) size (left text g))))

-- faces one after another: the first has the number c
faces_on : (end k c : ℕ) (x : List ℕ) (ws us : List Word) → face end c ws ≡ Got x us → went (faces end (suc k) c ws) ≡ went (faces end k (suc c) us)
unfolding faces ◌then◌
faces_on end k c x ws us e = rw e (went_then (λ xs. x ++ xs) (faces end k (suc c) us))

faces_broke : (end k c : ℕ) (ws : List Word) (p : ℕ) → face end c ws ≡ Stop p → went (faces end (suc k) c ws) ≡ Broke p
unfolding faces ◌then◌ went
faces_broke end k c ws p e = rw e

pub faces_none : (end c : ℕ) (ws : List Word) → faces end 0 c ws ≡ Got [] ws
unfolding faces
faces_none end c ws = refl

pub faces_start : (text : List ℕ) (n at : ℕ) → went (faces (length text) n 0 (left text at)) ≡ went (faces (length text) (n - 0) 0 (left text at))
faces_start text n at = let e : n - 0 ≡ n = omega arith in rw e

module _ (X : Went) (text : List ℕ) (n i at : ℕ) (inv : X ≡ went (faces (length text) (n - i) i (left text at))) where
  pub faces_halt : i < n → (b : Broken) → ((c : ℕ) → went (face (length text) c (left text at)) ≡ Broke b.place) → went_says text (Err b) ≡ X
  unfolding went_says
  faces_halt h b e =
      sym (inv ∙ (ap (λ (k : ℕ). went (faces (length text) k i (left text at))) (less_one n i h)
      ∙ faces_broke (length text) (n - (i + 1)) i (left text at) b.place (went_stop _ b.place (e i))))

  pub faces_go : i < n → (g : ℕ) → ((c : ℕ) → went (face (length text) c (left text at)) ≡ On (left text g))
      → X ≡ went (faces (length text) (n - (i + 1)) (i + 1) (left text g))
  faces_go h g e =
      let got = went_got _ (left text g) (e i) in
      rw (add-one i) (inv ∙ (ap (λ (k : ℕ). went (faces (length text) k i (left text at))) (less_one n i h ∙ ap (λ (k : ℕ). suc (n - k)) (add-one i))
      ∙ faces_on (length text) (n - suc i) i got.0 (left text at) (left text g) got.1))

  pub faces_done : n ≤ i → (c : Cursor) → c.at ≡ at → went_says text (Ok c) ≡ X
  unfolding went_says went faces
  faces_done h c e = let none : n - i ≡ 0 = omega arith in rw e (sym (inv ∙ rw none))
