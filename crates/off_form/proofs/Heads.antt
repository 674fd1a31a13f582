-- The word OFF and the counts, and then the whole text.
use mathlib.Core.Path.{◌≡◌, refl, ◌∙◌}
use mathlib.Core.List.{List, [], ◌∷◌}
use Prim.Native.Nat.{ℕ, ◌*◌}
use Rattle.std.specs.Prelude.{Option, Some, None, Result, Ok, Err}
use lib.ListN.{length, get_or, drop}
use lib.IntN.{ℤ}
use Rattle.off.specs.Words.{Word, words_from}
use Rattle.off.specs.Numbers.{number_of, coordinate_of, title_of}
use Rattle.off.specs.Reading.{Read, Got, Stop, ◌then◌, one, many, faces, Surface, ended, read_words, reading}
use Rattle.off.specs.Forms.{next_of}
use Rattle.off.specs.declared.Cursor.{Cursor}
use Rattle.off.specs.declared.Span.{Span}
use Rattle.off_form.specs.Took.{left, On, Broke, went}
use Rattle.off_form.specs.Formed.{head_read, Headed, Formed}
use Rattle.off_form.specs.declared.Head.{Head}
use Rattle.off_form.specs.declared.Broken.{Broken}
use Rattle.off_form.proofs.Taking.{here_none, here_word}
use Rattle.off_form.proofs.Passing.{went_got, went_stop}

headed_stop : (text : List ℕ) (fault : Broken) → head_read (length text) (left text 0) ≡ Stop fault.place → Headed text (Err fault)
headed_stop text fault e = record {
  stops = λ other z. let same : fault ≡ other = cc in rw (← same) e;
  is = λ h z. cc;
}

headed_is : (text : List ℕ) (h : Head) (edges : ℕ) → head_read (length text) (left text 0) ≡ Got (h.marks ∷ h.cells ∷ edges ∷ []) (left text h.behind.at)
    → Headed text (Ok h)
headed_is text h edges e = record {
  stops = λ q z. cc;
  is = λ k z. let same : h ≡ k = cc in rw (← same) (edges, e);
}

module _ (text : List ℕ) where
  -- the parts of the head, as far as they were read
  pub head_title : (fault : Broken) → went (one title_of (length text) (left text 0)) ≡ Broke fault.place → Headed text (Err fault)
  unfolding head_read ◌then◌
  head_title fault e = headed_stop text fault (rw (went_stop (one title_of (length text) (left text 0)) fault.place e))

  module _ (a : Cursor) (e : went (one title_of (length text) (left text 0)) ≡ On (left text a.at)) where
    behind_title : head_read (length text) (left text 0) ≡ many number_of (length text) 3 (left text a.at)
    unfolding head_read ◌then◌
    behind_title = rw (went_got (one title_of (length text) (left text 0)) (left text a.at) e).1

    pub head_marks : (fault : Broken) → one number_of (length text) (left text a.at) ≡ Stop fault.place → Headed text (Err fault)
    unfolding many ◌then◌
    head_marks fault f = headed_stop text fault (behind_title ∙ rw f)

    module _ (m : ℕ) (b : Cursor) (f : one number_of (length text) (left text a.at) ≡ Got m (left text b.at)) where
      pub head_cells : (fault : Broken) → one number_of (length text) (left text b.at) ≡ Stop fault.place → Headed text (Err fault)
      unfolding many ◌then◌
      head_cells fault g = headed_stop text fault (behind_title ∙ rw (f, g))

      module _ (n : ℕ) (c : Cursor) (g : one number_of (length text) (left text b.at) ≡ Got n (left text c.at)) where
        pub head_edges : (fault : Broken) → one number_of (length text) (left text c.at) ≡ Stop fault.place → Headed text (Err fault)
        unfolding many ◌then◌
        head_edges fault h = headed_stop text fault (behind_title ∙ rw (f, g, h))

        pub head_read_lem : (k : ℕ) (d : Cursor) → one number_of (length text) (left text c.at) ≡ Got k (left text d.at)
            → Headed text (Ok (record { marks = m; cells = n; behind = d }))
        unfolding many ◌then◌
        head_read_lem k d h = headed_is text (record { marks = m; cells = n; behind = d }) k (behind_title ∙ rw (f, g, h))

-- the whole text
formed_stop : (text : List ℕ) (fault : Broken) → reading text ≡ Stop fault.place → Formed text (Err fault)
formed_stop text fault e = record {
  stops = λ other z. let same : fault ≡ other = cc in rw (← same) e;
  stands = λ f z. cc;
}

-- behind the counts
unfoldable rest : ℕ → ℕ → ℕ → List Word → Read Surface
rest end marks cells ws =
    many coordinate_of end (3 * marks) ws then λ positions ws.
    faces end cells 0 ws then λ records ws.
    ended (record { marks = marks; cells = cells; positions = positions; records = records }) ws

assoc : {A B C : Type 0} (r : Read A) (f : A → List Word → Read B) (g : B → List Word → Read C)
    → (r then λ a ws. (f a ws then g)) ≡ ((r then f) then g)
unfolding ◌then◌
assoc (Got a ws) f g = refl
assoc (Stop p) f g = refl

read_head : (end : ℕ) (ws : List Word) → read_words end ws ≡ (head_read end ws then λ counts ws. rest end (get_or counts 0 0) (get_or counts 1 0) ws)
unfolding read_words head_read rest
read_head end ws = assoc (one title_of end ws) (λ _ ws. many number_of end 3 ws) (λ counts ws. rest end (get_or counts 0 0) (get_or counts 1 0) ws)

module _ (text : List ℕ) where
  from_start : reading text ≡ read_words (length text) (left text 0)
  unfolding reading left
  from_start = refl

  module _ (r : Result Head Broken) (h : Headed text r) where
    pub form_head : (fault : Broken) → r ≡ Err fault → Formed text (Err fault)
    unfolding ◌then◌
    form_head fault e = formed_stop text fault (from_start ∙ (read_head (length text) (left text 0) ∙ rw (h.stops fault e)))

    module _ (k : Head) (e : r ≡ Ok k) where
      behind_head : reading text ≡ rest (length text) k.marks k.cells (left text k.behind.at)
      unfolding ◌then◌
      behind_head = from_start ∙ (read_head (length text) (left text 0) ∙ rw (h.is k e).1)

      pub form_vertices : (fault : Broken) → went (many coordinate_of (length text) (3 * k.marks) (left text k.behind.at)) ≡ Broke fault.place → Formed text (Err fault)
      unfolding rest ◌then◌
      form_vertices fault f = formed_stop text fault (behind_head ∙ rw (went_stop (many coordinate_of (length text) (3 * k.marks) (left text k.behind.at)) fault.place f))

      module _ (b : Cursor) (f : went (many coordinate_of (length text) (3 * k.marks) (left text k.behind.at)) ≡ On (left text b.at)) where
        positions : (l : List ℤ) × (many coordinate_of (length text) (3 * k.marks) (left text k.behind.at) ≡ Got l (left text b.at))
        positions = went_got (many coordinate_of (length text) (3 * k.marks) (left text k.behind.at)) (left text b.at) f

        pub form_faces : (fault : Broken) → went (faces (length text) k.cells 0 (left text b.at)) ≡ Broke fault.place → Formed text (Err fault)
        unfolding rest ◌then◌
        form_faces fault g = formed_stop text fault (behind_head ∙ rw (positions.1, went_stop (faces (length text) k.cells 0 (left text b.at)) fault.place g))

        module _ (c : Cursor) (g : went (faces (length text) k.cells 0 (left text b.at)) ≡ On (left text c.at)) where
          records : (l : List ℕ) × (faces (length text) k.cells 0 (left text b.at) ≡ Got l (left text c.at))
          records = went_got (faces (length text) k.cells 0 (left text b.at)) (left text c.at) g

          abbrev said : Surface
          said = record { marks = k.marks; cells = k.cells; positions = positions.0; records = records.0 }

          behind_faces : reading text ≡ ended said (left text c.at)
          unfolding rest ◌then◌
          behind_faces = behind_head ∙ rw (positions.1, records.1)

          module _ (next : Option Span) (n : next ≡ next_of (words_from c.at (drop c.at text))) where
            pub form_more : (more : Span) → next ≡ Some more → Formed text (Err (record { place = more.first }))
            unfolding ended
            form_more more z = formed_stop text (record { place = more.first }) (behind_faces ∙ rw (here_word text c.at next n more z).words)

            pub form_is : next ≡ None → Formed text (Ok (record { marks = k.marks; cells = k.cells; vertices = k.behind; faces = b }))
            unfolding ended
            form_is z = record {
              stops = λ q y. cc;
              stands = λ m y.
                  let none : left text c.at ≡ [] = here_none text c.at next n z in
                  let same : record { marks = k.marks; cells = k.cells; vertices = k.behind; faces = b } ≡ m = cc in
                  rw (← same) (
                    said,
                    record {
                      reads = behind_faces ∙ rw none;
                      marks = refl;
                      cells = refl;
                      vertices = positions.1;
                      faces = records.1 ∙ rw none;
                    },
                  );
            }
