use Rattle.language.specs.Words.{is_blank}
use Rattle.scanning.proofs.blanks_end.Given as goal

-- a run of blanks
abbrev pub ghost-run_end : goal.ghost-run_end
ghost-run_end a = is_blank
