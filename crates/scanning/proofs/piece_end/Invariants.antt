use Rattle.scanning.specs.Scanned.{of_piece}
use Rattle.scanning.proofs.piece_end.Given as goal

-- a run of bytes of a piece
abbrev pub ghost-run_end : goal.ghost-run_end
ghost-run_end a = of_piece
