-- Nothing else fits: the promises leave one memory, one list of positions and one output.
use mathlib.Core.Path.{◌≡◌, refl, sym, ap, ◌∙◌}
use mathlib.Core.List.{List}
use Prim.Native.Nat.{ℕ}
use native.Mathlib.Decide.{ℕ_discrete}
use lib.ListN.{length}
use lib.IntN.{ℤ}
use Rattle.std.specs.Prelude.{Result}
use Rattle.map.specs.Cells.{Map}
use Rattle.laws.proofs.Edits.{build_caps}
use Rattle.picture.specs.Picture.{Wf}
use Rattle.picture.proofs.Put.{wf_alone}
use Rattle.off.specs.Words.{Word}
use Rattle.off.specs.Reading.{Read, Got, Stop, Surface, reading}
use Rattle.surfaces.specs.ReadsOff.{surfaced_says, caps_of, room_refusal, outcome, read_answer, SurfaceLeft, ReadsOff}
use Rattle.surfaces.specs.declared.NotRead.{NotRead}
use Rattle.surfaces_out.specs.WritesOff.{written_says, WritesOff}
use Rattle.surfaces_out.specs.declared.NotWritten.{NotWritten}

left_alone : {s : Surface} {w a b : List ℕ} {p pa pb : List ℤ} → SurfaceLeft s w p a pa → SurfaceLeft s w p b pb → (a ≡ b) × (pa ≡ pb)
unfolding outcome
left_alone {s} {w} {a} {b} x y = (
  wf_alone {w = w} x.wf y.wf (rw (build_caps (caps_of s) s.records) x.inside) (rw (build_caps (caps_of s) s.records) y.inside),
  x.metres ∙ sym y.metres,
)

pub read_alone : {w a b text : List ℕ} {p pa pb : List ℤ} {r t : Result (Unit {0}) NotRead} → ReadsOff w p text r a pa → ReadsOff w p text t b pb
    → (surfaced_says r ≡ surfaced_says t) × (a ≡ b) × (pa ≡ pb)
read_alone {w} {a} {b} {text} {p} {pa} {pb} {r} {t} x y = let g = go (reading text) refl in (x.says ∙ sym y.says, g.0, g.1)
  where
    here : (s : Surface) (us : List Word) → reading text ≡ Got s us → Dec (room_refusal (length w) (length p) s ≡ 0) → (a ≡ b) × (pa ≡ pb)
    here s us e (yes z) = left_alone (x.left s us e z) (y.left s us e z)
    here s us e (no f) = ((x.kept s us e f).0 ∙ sym (y.kept s us e f).0, (x.kept s us e f).1 ∙ sym (y.kept s us e f).1)

    go : (z : Read Surface) → reading text ≡ z → (a ≡ b) × (pa ≡ pb)
    go (Stop place) e = ((x.broke place e).0 ∙ sym (y.broke place e).0, (x.broke place e).1 ∙ sym (y.broke place e).1)
    go (Got s us) e = here s us e (ℕ_discrete (room_refusal (length w) (length p) s) 0)

-- what a read answers and leaves follows from what its text says alone
answer_said : (words numbers : ℕ) (s : Surface) (us vs : List Word) → read_answer words numbers (Got s us) ≡ read_answer words numbers (Got s vs)
unfolding read_answer
answer_said words numbers s us vs = refl

pub read_said : {w a b text other : List ℕ} {p pa pb : List ℤ} {r t : Result (Unit {0}) NotRead} (s : Surface) (us vs : List Word)
    → reading text ≡ Got s us → reading other ≡ Got s vs → ReadsOff w p text r a pa
    → ReadsOff w p other t b pb → (surfaced_says r ≡ surfaced_says t) × (a ≡ b) × (pa ≡ pb)
read_said {w} {a} {b} {text} {other} {p} {pa} {pb} {r} {t} s us vs e f x y =
    let g = go (ℕ_discrete (room_refusal (length w) (length p) s) 0) in (
      x.says ∙ (ap (read_answer (length w) (length p)) e
          ∙ (answer_said (length w) (length p) s us vs ∙ sym (y.says ∙ ap (read_answer (length w) (length p)) f))),
      g.0,
      g.1,
    )
  where
    go : Dec (room_refusal (length w) (length p) s ≡ 0) → (a ≡ b) × (pa ≡ pb)
    go (yes z) = left_alone (x.left s us e z) (y.left s vs f z)
    go (no n) = ((x.kept s us e n).0 ∙ sym (y.kept s vs f n).0, (x.kept s us e n).1 ∙ sym (y.kept s vs f n).1)

-- of well-formed memory: what is written twice is the same text
pub write_alone : {w o a b : List ℕ} {p : List ℤ} {r t : Result ℕ NotWritten} {m : Map} → Wf w m → WritesOff w p o r a → WritesOff w p o t b
    → (written_says r ≡ written_says t) × (a ≡ b)
write_alone {m = m} wf x y = ((x.answers m wf).0 ∙ sym (y.answers m wf).0, (x.answers m wf).1 ∙ sym (y.answers m wf).1)
