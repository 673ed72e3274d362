-- A part of the text of records, as the code writes it.
use Rattle.std.specs.Prelude.{List, [], ◌∷◌, ◌++◌, ℕ}
use Rattle.model.specs.declared.Record.{Record}
use Rattle.model.specs.Bondtrace.{ascii, spaced}
use Rattle.language.specs.RecordText.{send_text, receive_text}

-- the line of a begin
unfoldable pub begin_line : Record → List ℕ
begin_line r = ascii "begin" ++ spaced (r.thread ∷ []) ++ send_text r.op.send ++ receive_text r.op.receive
