-- The call that a lawful record makes, by its bytes; it is not the first of its schedule.
use Rattle.std.proofs.Common.{◌≡◌, ℕ, suc, ◌≤◌, true, false, ◌≢◌, List, sym, refl, ap, ◌∙◌, arith}
use Rattle.model.specs.declared.Record.{Record}
use Rattle.model.specs.Threads.{no_operation}
use Rattle.model.specs.Calls.{begin, step, cancel, tick}
use Rattle.model.specs.RecordBytes.{table_kind, begin_kind, step_kind, cancel_kind, tick_kind, set_kind, is_begin, kind_byte, thread_byte, lawful}
use Rattle.model.specs.Decoding.{operation_by, record_of, front}
use Rattle.model.specs.Bondtrace.{call_of}
use Rattle.model.proofs.Laws.{same?}
use Rattle.laws.proofs.Schedule.{is-begin, is_set}
use Rattle.reading.proofs.Fronts.{lawful-kind, lawful-later}
use Rattle.reading.proofs.Reading.{front_read, bare-read}

-- a kind that is not the least of those left is above it
above : (n k : ℕ) → n ≤ k → k ≢ n → suc n ≤ k
above n k least other = omega arith

-- one that is at most the least is that
last : (n k : ℕ) → k ≤ n → n ≤ k → k ≡ n
last n k most least = omega arith

module _ (bytes : List ℕ) where
  -- the record at the front
  abbrev item : Record
  item = record_of (front bytes)

  -- the call of bytes that start with no begin, by their kind
  call_by_kind : (k : ℕ) → kind_byte bytes ≡ k → is_begin k ≡ false → call_of item ≡ call_of (record { kind = k; thread = thread_byte bytes; op = no_operation })
  call_by_kind k e d = ap call_of (sym (bare-read bytes (rw e d))) ∙ ap (λ (m : ℕ). call_of (record { kind = m; thread = thread_byte bytes; op = no_operation })) e

  -- a tick
  pub calls_tick : kind_byte bytes ≡ tick_kind → call_of item ≡ tick
  unfolding call_of is_begin
  calls_tick e = call_by_kind tick_kind e refl

  -- a step
  pub calls-step : kind_byte bytes ≡ step_kind → call_of item ≡ step (thread_byte bytes)
  unfolding call_of is_begin
  calls-step e = call_by_kind step_kind e refl

  -- a cancel
  pub calls-cancel : kind_byte bytes ≡ cancel_kind → call_of item ≡ cancel (thread_byte bytes)
  unfolding call_of is_begin
  calls-cancel e = call_by_kind cancel_kind e refl

  -- a begin, with a set or without
  pub calls-begin : is_begin (kind_byte bytes) ≡ true → call_of item ≡ begin (thread_byte bytes) (operation_by (kind_byte bytes) bytes)
  unfolding call_of
  calls-begin e = ap call_of (sym (front_read bytes)) ∙ rw e refl

  -- what is no tick, step or cancel is a begin
  pub must_begin : lawful false (front bytes) ≡ true → kind_byte bytes ≢ tick_kind → kind_byte bytes ≢ step_kind → kind_byte bytes ≢ cancel_kind → is_begin (kind_byte bytes) ≡ true
  must_begin e a b c =
      let k = kind_byte bytes in
      same? k begin_kind (λ is. is-begin k is) (λ d. is_set k (last set_kind k (lawful-kind bytes false e)
      (above tick_kind k (above cancel_kind k (above step_kind k (above begin_kind k (above table_kind k (omega arith) (lawful-later bytes e)) d) b) c) a)))
