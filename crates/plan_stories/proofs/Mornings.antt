-- The words of edits that are each accepted in turn are read back as those edits, and a morning of them makes all.
use mathlib.Core.Path.{◌≡◌, refl, sym, ap, ◌∙◌}
use mathlib.Core.List.{List, [], ◌∷◌, ◌++◌}
use Prim.Native.Nat.{ℕ, suc, ◌+◌}
use native.Mathlib.Omega.{arith}
use lib.ListN.{length, take, drop}
use lib.Seq.{take_at, drop_at}
use Rattle.shapes.specs.Shapes.{shape}
use Rattle.map.specs.Cells.{Body, licensed_body, Map}
use Rattle.map.specs.History.{Edit, Insert, Remove, edit_answer, changed, edited, history}
use Rattle.map.specs.Morning.{Turn, Is, insert_turn, remove_turn, turn, Reading, before, read_from, Morning, one_more, in_turn, morning}
use Rattle.laws.proofs.Edits.{edited_changed, may_insert}
use Rattle.laws.proofs.Rebuild.{AllAccepted, done, next}
use Rattle.edits.proofs.Turns.{read_edit}
use Rattle.edits.proofs.Wellformed.{turn_made}
use Rattle.planner.specs.Plan.{edit_words}

drop_three : (k a b c : ℕ) (l : List ℕ) → drop (3 + k) (a ∷ b ∷ c ∷ l) ≡ drop k l
drop_three k a b c l = let e : 3 + k ≡ suc (suc (suc k)) = omega arith in rw e

-- an insertion at its turn
insert_turn_lem : (c : ℕ) (x : Body) (more : List ℕ) → length x.marks ≡ (shape x.code).marks
    → turn 1 (c ∷ x.code ∷ x.licence ∷ (x.marks ++ more)) ≡ Is (Insert c x) (3 + (shape x.code).marks)
unfolding turn insert_turn
insert_turn_lem c x more count =
    ap (λ (l : List ℕ). Is (Insert c (licensed_body x.code x.licence l)) (3 + (shape x.code).marks))
    (take_at x.marks more (shape x.code).marks count)

remove_turn_lem : (c : ℕ) (more : List ℕ) → turn 2 (c ∷ more) ≡ Is (Remove c) 1
unfolding turn remove_turn
remove_turn_lem c more = refl

words_read : (es : List Edit) (m : Map) → AllAccepted m es → read_from 0 (edit_words es) ≡ record { edits = es; last = 0 }
unfolding edit_words read_from
words_read [] m done = refl
words_read (Insert c x ∷ es) m (next ok rest) =
    let count = (may_insert m c x ok).count in
    read_edit 1 (c ∷ x.code ∷ x.licence ∷ (x.marks ++ edit_words es)) (Insert c x) (3 + (shape x.code).marks) (insert_turn_lem c x (edit_words es) count)
    ∙ ap (before (Insert c x))
    (ap (read_from 0) (drop_three (shape x.code).marks c x.code x.licence (x.marks ++ edit_words es)
    ∙ drop_at x.marks (edit_words es) (shape x.code).marks count)
    ∙ words_read es (edited m (Insert c x)) rest)
words_read (Remove c ∷ es) m (next ok rest) =
    read_edit 2 (c ∷ edit_words es) (Remove c) 1 (remove_turn_lem c (edit_words es)) ∙ ap (before (Remove c)) (words_read es (edited m (Remove c)) rest)

-- edits that are each accepted in turn are all made
all_made : (es : List Edit) (m : Map) → AllAccepted m es → in_turn m es 0 ≡ record { made = length es; refusal = 0; map = history m es }
unfolding in_turn history
all_made [] m done = refl
all_made (e ∷ es) m (next ok rest) =
    turn_made m e es 0 ok
    ∙ (ap one_more (all_made es (changed m e) (rw (edited_changed m e ok) at rest))
    ∙ ap (λ (k : Map). record { made = suc (length es); refusal = 0; map = history k es }) (sym (edited_changed m e ok)))

pub morning_made : (es : List Edit) (m : Map) → AllAccepted m es → morning m (edit_words es) ≡ record { made = length es; refusal = 0; map = history m es }
unfolding morning
morning_made es m a = ap (λ (r : Reading). in_turn m r.edits r.last) (words_read es m a) ∙ all_made es m a
