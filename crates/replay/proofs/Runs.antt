-- Runs of edits, and the edit of an entry by its words.
use mathlib.Core.Path.{◌≡◌, refl, sym, ap, ◌∙◌, subst}
use mathlib.Core.Bool.{Bool, true, false, cond}
use mathlib.Core.List.{List, [], ◌∷◌, ◌++◌}
use Prim.Native.Nat.{ℕ, suc, ◌+◌, ◌<◌, ◌≤◌}
use native.Mathlib.Numerals.{add-one}
use native.Mathlib.Omega.{arith}
use borrow.Author.Tests.{eq-eqb, ne_eqb}
use lib.ListN.{length, get_or, take}
use lib.Seq.{ext_get_or, get_or-take, length-take-le}
use Rattle.words.specs.Words.{part_of, Only}
use Rattle.shapes.specs.Shapes.{shape}
use Rattle.map.specs.Cells.{licensed_body}
use Rattle.map.specs.History.{Edit, Insert, Remove}
use Rattle.map.specs.declared.Refusal.{Refusal}
use Rattle.std.specs.Prelude.{Result, ⊤}
use Rattle.mesh.specs.Edited.{Edited}
use Rattle.mesh.specs.Run as R
use Rattle.mesh.specs.Run.{Run}
use Rattle.journal_store.specs.Entries.{entry_at, insert_kind}
use Rattle.journal_store.specs.Journals.{type_in, licence_in, edit_in, edits_in}
use Rattle.journal_store.specs.Writes.{Copied}
use Rattle.journal_store.proofs.Copying.{copied_word}
use Rattle.replay.specs.Replayed.{Replayed}

-- one more edit at the end
pub run_end : {w w' w'' : List ℕ} {es : List Edit} {e : Edit} {r : Result ⊤ Refusal} → Run w es w' → Edited w' e r w'' → Run w (es ++ (e ∷ [])) w''
run_end {r = r} R.done d = R.then r d R.done
run_end (R.then v first rest) d = R.then v first (run_end rest d)

-- the words stay as many
pub run_size : {w w' : List ℕ} {es : List Edit} → Run w es w' → length w' ≡ length w
run_size R.done = refl
run_size (R.then r e rest) = run_size rest ∙ e.inside.size

pub run_none : (j w : List ℕ) (k : ℕ) → k ≡ 0 → Run w (edits_in j k) w
unfolding edits_in
run_none j w k z = rw z R.done

pub run_more : (j w w' w'' : List ℕ) (k : ℕ) (r : Result ⊤ Refusal) → Run w (edits_in j k) w' → Edited w' (edit_in j k) r w'' → Run w (edits_in j (k + 1)) w''
unfolding edits_in
run_more j w w' w'' k r run d = rw (add-one k) (run_end run d)

pub run_all : (j w w' : List ℕ) (k n : ℕ) → Run w (edits_in j k) w' → k ≤ n → n ≤ k → Run w (edits_in j n) w'
run_all j w w' k n run a b = let same : k ≡ n = omega arith in rw same at run

module _ (j w w' : List ℕ) (k : ℕ) (kind c : ℕ) (ek : kind ≡ get_or j (entry_at k + 1) 0) (ec : c ≡ get_or j (entry_at k + 2) 0) (r : Result ⊤ Refusal) where
  pub insert_entry : kind ≡ insert_kind → (t licence at n : ℕ) (marks : List ℕ) → t ≡ type_in j k → licence ≡ licence_in j k → at ≡ entry_at k + 5 → n ≡ (shape t).marks → marks ≡ part_of j at n
      → Edited w (Insert c (licensed_body t licence marks)) r w' → Edited w (edit_in j k) r w'
  unfolding edit_in
  insert_entry ki t licence at n marks et el ea en em d =
      let q : get_or j (entry_at k + 1) 0 ≡ insert_kind = sym ek ∙ ki in
      rw (q) (subst (λ (e : Edit). Edited w e r w') same d)
    where
      same : Insert c (licensed_body t licence marks)
          ≡ Insert (get_or j (entry_at k + 2) 0) (licensed_body (type_in j k) (licence_in j k) (part_of j (entry_at k + 5) (shape (type_in j k)).marks))
      same = rw (em, en, ea, el, et, ec)

  pub remove_entry : (kind ≡ insert_kind → ⊥) → Edited w (Remove c) r w' → Edited w (edit_in j k) r w'
  unfolding edit_in
  remove_entry ki d = rw (ne_eqb (get_or j (entry_at k + 1) 0) insert_kind (λ q. ki (ek ∙ q)), ← ec) d

-- all words copied, then the run
pub replayed : (start j w w₁ w' : List ℕ) (n k : ℕ) → k ≡ length w → Copied start 0 k w w₁ → Run w₁ (edits_in j n) w' → Replayed start j n w w'
replayed start j w w₁ w' n k ek c run = record {
  size = run_size run ∙ c.only.size;
  runs = λ fits. rw (sym (same fits)) at run;
}
  where
    same : length w ≤ length start → take (length w) start ≡ w₁
    same fits =
        ext_get_or 0 (take (length w) start) w₁ (length-take-le (length w) start fits ∙ sym c.only.size)
        (λ i h.
        let less : i < length w = omega (arith, length-take-le (length w) start fits) in
        get_or-take (length w) start i 0 less ∙ sym (copied_word c i i (omega arith) (omega arith) (omega arith)))
