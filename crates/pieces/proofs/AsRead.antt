-- What is played is what the model reads.
use mathlib.Core.Path.{◌≡◌, refl, sym, ap, ◌∙◌, subst}
use mathlib.Core.Bool.{true, false, cond}
use mathlib.Core.Option.{none}
use mathlib.Core.List.{List, ◌++◌}
use Prim.Native.Nat.{ℕ, zero, suc, ◌+◌, ◌<◌}
use native.Mathlib.Omega.{arith}
use lib.ListN.{length, drop, length-append}
use lib.Seq.{drop-drop}
use Rattle.model.specs.Lists.{bit, concat}
use Rattle.model.specs.RecordBytes.{record_length, kind_byte, word_at, lawful}
use Rattle.model.specs.Decoding.{front, operation_of, set_operation_of, record_of}
use Rattle.model.specs.Encoding.{operation_bytes, encode}
use Rattle.model.specs.Schedule.{is_empty, read_from, encode_all}
use Rattle.model.specs.Bondtrace.{Tally, records_played}
use Rattle.model.proofs.Laws.{by, length-up-to}
use Rattle.laws.proofs.Lists.{cond-true, cond-false}
use Rattle.laws.proofs.Schedule.{lawful-length}
use Rattle.roundtrip.proofs.Records.{operation-length, operation-begin, operation-set}
use Rattle.roundtrip.proofs.Operations.{read-bare}
use Rattle.laws.proofs.Schedule.{is-begin, is_set, by_kind, begin_kinds, record_begin, record_set, record_other}
use Rattle.roundtrip.proofs.Reading.{reads_none, reads-fault, later, reads-one, enough}
use Rattle.roundtrip.proofs.Ends.{fault_at}
use Rattle.pieces.specs.Playing.{Progress, ahead, played_on}
use Rattle.pieces.specs.Pieces.{AsRead, PlayedAsRead}
use Rattle.pieces.proofs.Playing.{behind, further, stopped_at, of_all-played}

-- the record that bytes stand for is written with as many bytes as its kind says
written-length : (bytes : List ℕ) → length (encode (record_of bytes)) ≡ record_length (kind_byte bytes)
unfolding encode record_of
written-length bytes = let k = kind_byte bytes in by_kind k
    (λ e. rw (is-begin k e, operation-begin k e bytes, record_begin k e) (omega (arith, operation-length (operation_of bytes) (unfold operation_of in length-up-to 8 (word_at bytes)), ap bit (read-bare bytes))))
    (λ e. rw (is_set k e, operation-set k e bytes, record_set k e) (omega (arith, set-length)))
    (λ d e. rw (begin_kinds k d e, record_other k d e) refl)
  where
    set-length : length (operation_bytes (set_operation_of bytes)) ≡ 42
    set-length = operation-length (set_operation_of bytes) (unfold set_operation_of operation_of in length-up-to 8 (word_at bytes)) ∙ (unfold set_operation_of in refl)

-- reading from any byte on, with enough records allowed for
abbrev ReadAs : Tally → List ℕ → Progress → Type 0
ReadAs p input q = (most place : ℕ) → length input < most → AsRead p place input q (read_from most false place input)

-- where playing stops, reading does
as_read-end : (p : Tally) (input : List ℕ) → lawful false (front input) ≡ false → ReadAs p input (stopped_at p input)
unfolding records_played encode_all concat
as_read-end p input e zero place h = absurd (omega arith)
as_read-end p input e (suc most) place h =
    by (is_empty input)
    (λ f. subst (AsRead p place input (stopped_at p input)) (sym (reads_none most false place input f)) (record { tally = refl; taken = refl; fault = sym (cond-true _ _ _ f) }))
    (λ f. subst (AsRead p place input (stopped_at p input)) (sym (reads-fault most false place input f e))
    (record { tally = refl; taken = refl; fault = ap fault_at (omega arith) ∙ sym (cond-false _ _ _ f) }))

-- where it goes on, reading does
as_read-more : (p : Tally) (input : List ℕ) (q : Progress) → lawful false (front input) ≡ true → ReadAs (further p input) (behind input) q → ReadAs p input (ahead (length (front input)) q)
unfolding ahead records_played encode_all concat
as_read-more p input q e r zero place h = absurd (omega arith)
as_read-more p input q e r (suc most) place h =
    subst (AsRead p place input (ahead k q)) (sym (reads-one most false place input e)) (record { tally = read.tally; taken = counted; fault = read.fault ∙ moved })
  where
    k : ℕ
    k = length (front input)

    read : AsRead (further p input) (place + k) (behind input) q (later most false place input)
    read = r most (place + k) (enough most false place input e h)

    counted : k + q.taken ≡ length (encode (record_of (front input)) ++ encode_all (later most false place input).records)
    counted = omega (arith, read.taken, length-append (encode (record_of (front input))) (encode_all (later most false place input).records), written-length (front input), lawful-length false (front input) e)

    moved : cond (is_empty (drop q.taken (behind input))) none (fault_at (place + k + q.taken)) ≡ cond (is_empty (drop (k + q.taken) input)) none (fault_at (place + (k + q.taken)))
    moved = rw drop-drop (ap (λ (at : ℕ). cond (is_empty (drop (k + q.taken) input)) none (fault_at at)) (omega arith))

-- what is played is what is read, where enough records are allowed for
pub as_read : (p : Tally) (input : List ℕ) → ReadAs p input (played_on p input)
as_read = of_all-played ReadAs as_read-end as_read-more

-- as many as there are bytes, and one more, are enough
pub played-as_read : PlayedAsRead
played-as_read p place input = as_read p input (suc (length input)) place (omega arith)
