use Rattle.std.proofs.Common.{◌≡◌, ◌*◌, ◌≤◌, length}
use Rattle.model.specs.Promise.{state}
use Rattle.text.specs.Writing.{written}
use Rattle.printing.specs.Texts.{threads_text, longest_line}
use Rattle.printing.proofs.put_threads.Given as goal

-- the lines of the first x threads are written, and are short
abbrev pub invariant-loop-x : goal.invariant-loop-x
invariant-loop-x l = record {
  told : l.out ≡ written (threads_text (state l.table l.store) l.x) l.initial.out;
  short : length (threads_text (state l.table l.store) l.x) ≤ longest_line * l.x;
}
