-- Words that are cut behind the room, edited, and put back.
use mathlib.Core.Path.{◌≡◌, refl, sym, ap, ◌∙◌, subst}
use mathlib.Core.Bool.{true, false, ◌&&◌, and-false}
use mathlib.Core.List.{List, ◌++◌}
use Prim.Native.Nat.{ℕ, ◌+◌, ◌-◌, ◌<◌, ◌≤◌}
use native.Mathlib.Decide.{dec_lt}
use native.Mathlib.Omega.{arith}
use borrow.Author.Tests.{lt-leb}
use lib.ListN.{length, get_or, take, drop, take-append-drop, length-append}
use lib.Seq.{get_or-take, get_or-append-add, length-take-le, take-append_seam, take_at}
use Rattle.lists.proofs.Bools.{clash}
use Rattle.numbers.specs.Room.{room}
use Rattle.numbers.specs.declared.Caps.{Caps}
use Rattle.words.specs.Words.{Only}
use Rattle.words.proofs.Frame.{only_none}
use Rattle.store.specs.Slots.{address, read}
use Rattle.store.specs.Open.{room_in, caps_in, is_mesh, opened}
use Rattle.map.specs.Says.{StoppedAt}
use Rattle.map.specs.declared.Stopped.{Stopped}
use Rattle.std.specs.Prelude.{Result, Ok, Err}
use Rattle.store.proofs.Slots.{slot_below}
use Rattle.map.specs.Cells.{Map}
use Rattle.map.specs.declared.Refusal.TheVariants.{NotMesh}
use Rattle.picture.specs.Picture.{Wf}
use Rattle.checks.proofs.Opens.{nothing_opened, mesh_opened, head_marks, head_cells, wf_mesh}
use Rattle.map.specs.Morning.{read_from, morning}
use Rattle.edits.specs.InTurn.{InTurn, ListEdited}
use Rattle.edits.proofs.Wellformed.{in_turn_wf, in_turn_size}

abbrev pub room_of : Map → ℕ
room_of m = room m.caps.marks m.caps.cells

-- the words before others, and those behind as many
pub get_or_left : (x rest : List ℕ) (i : ℕ) → i < length x → get_or (x ++ rest) i 0 ≡ get_or x i 0
get_or_left x rest i h =
    sym (get_or-take (length x) (x ++ rest) i 0 h) ∙ ap (λ (l : List ℕ). get_or l i 0) (take-append_seam x rest)

get_or_right : (x rest : List ℕ) (i : ℕ) → length x ≤ i → get_or (x ++ rest) i 0 ≡ get_or rest (i - length x) 0
get_or_right x rest i h =
    let e : length x + (i - length x) ≡ i = omega arith in
    subst (λ (j : ℕ). get_or (x ++ rest) j 0 ≡ get_or rest (i - length x) 0) e (get_or-append-add x rest (i - length x) 0)

-- only the words before others change
pub joined_inside : (x x' rest : List ℕ) → length x' ≡ length x → Only (λ i. i < length x) (x ++ rest) (x' ++ rest)
joined_inside x x' rest e = record {
  size = length-append x' rest ∙ (ap (λ (n : ℕ). n + length rest) e ∙ sym (length-append x rest));
  same = λ i ne.
      get_or_right x' rest i (omega arith) ∙ (ap (λ (n : ℕ). get_or rest (i - n) 0) e ∙ sym (get_or_right x rest i (omega arith)));
}

-- words that agree in the room stand for the same map
pub wf_alike : (a b : List ℕ) (m : Map) → Wf a m → room_of m ≤ length b → ((i : ℕ) → i < room_of m → get_or b i 0 ≡ get_or a i 0) → Wf b m
unfolding read
wf_alike a b m wf h same = record {
  sound = wf.sound;
  two = wf.two;
  picture = record {
    marks = wf.picture.marks;
    cells = wf.picture.cells;
    edition = wf.picture.edition;
    fits = h;
    words = λ x e. same (address m.caps.marks m.caps.cells x) (slot_below m.caps.marks m.caps.cells x e) ∙ wf.picture.words x e;
  };
}

pub wf_joined : (x rest : List ℕ) (m : Map) → Wf x m → Wf (x ++ rest) m
wf_joined x rest m wf =
    wf_alike x (x ++ rest) m wf (omega (arith, wf.picture.fits, length-append x rest)) (λ i h. get_or_left x rest i (omega (arith, wf.picture.fits)))

pub wf_cut : (x rest : List ℕ) (m : Map) → Wf (x ++ rest) m → room_of m ≤ length x → Wf x m
wf_cut x rest m wf h = wf_alike (x ++ rest) x m wf h (λ i less. sym (get_or_left x rest i (omega arith)))

-- the room of a mesh fits
pub mesh_fits : (w : List ℕ) → is_mesh w ≡ true → room_in w ≤ length w
unfolding is_mesh
mesh_fits w yes' = go (dec_lt (length w) (room_in w))
  where
    go : Dec (length w < room_in w) → room_in w ≤ length w
    go (yes l) = absurd (clash yes' (simp (lt-leb (room_in w) (length w) l, and-false)))
    go (no f) = omega arith

-- the room by the head is that by the map
pub head_room : (w : List ℕ) (m : Map) → Wf w m → room_in w ≡ room_of m
head_room w m wf = rw (head_marks w m wf, head_cells w m wf)

pub edits_none : (w list : List ℕ) → (Err NotMesh) ≡ opened w → ListEdited w list (StoppedAt 0 NotMesh) w
edits_none w list e = record {
  refused = λ n. (refl, refl);
  inside = only_none;
  turns = λ y. absurd (clash y (nothing_opened w e));
  answers = λ m wf. absurd (clash (wf_mesh w m wf) (nothing_opened w e));
}

module _ (w : List ℕ) (caps : Caps) (opens : Ok caps ≡ opened w) (k : ℕ) (ek : k ≡ room caps.marks caps.cells) where
  cut_room : k ≡ room_in w
  unfolding caps_in
  cut_room = ek ∙ ap (λ (c : Caps). room c.marks c.cells) (mesh_opened w caps opens).1

  pub cut_fits : k ≤ length w
  cut_fits = omega (arith, cut_room, mesh_fits w (mesh_opened w caps opens).0)

  cut_length : length (take k w) ≡ k
  cut_length = length-take-le k w cut_fits

  pub edits_made : (list : List ℕ) (r : Result ℕ Stopped) (x : List ℕ) → InTurn (take k w) (read_from 0 list).edits (read_from 0 list).last r x
      → ListEdited w list r (x ++ drop k w)
  unfolding morning
  edits_made list r x did = record {
    refused = λ n. absurd (clash (mesh_opened w caps opens).0 n);
    inside = rw (← cut_room) inside;
    turns = λ y. rw (← cut_room, take_at x (drop k w) k size) did;
    answers = λ m wf.
        let fits : room_of m ≤ length (take k w) = omega (arith, cut_length, cut_room, head_room w m wf) in
        let cut : Wf (take k w) m = wf_cut (take k w) (drop k w) m (rw (take-append-drop k w) wf) fits in
        let made = in_turn_wf did m cut in
        (made.0, wf_joined x (drop k w) _ made.1);
  }
    where
      size : length x ≡ k
      size = in_turn_size did ∙ cut_length

      inside : Only (λ i. i < k) w (x ++ drop k w)
      inside = rw (cut_length, take-append-drop k w) at (joined_inside (take k w) x (drop k w) (in_turn_size did))
