-- The part of document 01's rules of lawful bytes that the first four bytes of a record decide.
use Rattle.std.specs.Prelude.{Bool, List, [], ◌∷◌, ℕ, eqb, leb}
use Rattle.std.specs.Bool.{beq}
use Rattle.model.specs.Lists.{implies, all_of}
use Rattle.model.specs.RecordBytes.{byte, kind_byte, thread_byte, table_kind, tick_kind, set_kind}

-- the mark, a kind that there is, the table's kind first and only there, and no thread in a tick
unfoldable pub lawful_head : Bool → List ℕ → Bool
lawful_head first bytes = all_of (
    eqb (byte bytes 0) 0x4C
    ∷ eqb (byte bytes 1) 0x34
    ∷ leb (kind_byte bytes) set_kind
    ∷ beq first (eqb (kind_byte bytes) table_kind)
    ∷ implies (eqb (kind_byte bytes) tick_kind) (eqb (thread_byte bytes) 0)
    ∷ []
    )
