-- What a word says and where the next word stands, as the code carries them.
use Rattle.std.specs.Prelude.{List, [], ◌∷◌, ◌+◌, length, Option, Some, None}
use Rattle.off.specs.Words.{Word}
use Rattle.off.specs.Numbers.{Says, Is, Breaks}
use Rattle.off.specs.declared.Span.{Span}

-- the first of the words: the place of its first byte, and the cursor right behind its last one
unfoldable pub next_of : List Word → Option Span
next_of [] = None
next_of (w ∷ ws) = Some (record { first = w.place; behind = record { at = w.place + length w.bytes } })

-- what a word says; none where it breaks the form
unfoldable pub said : {A : Type 0} → Says A → Option A
said (Is a) = Some a
said Breaks = None
