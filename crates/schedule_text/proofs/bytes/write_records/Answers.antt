use Rattle.std.proofs.Common.{arith, rules, ◌<◌, length, sym, ◌∙◌, ap}
use Rattle.model.specs.Encoding.{lawful_record}
use Rattle.laws.proofs.Schedule.{record_longest}
use Rattle.language.specs.RecordText.{threads_of}
use Rattle.schedule_text.proofs.Lawful.{from_first, one-lawful, one-unlawful, all-lawful}
use Rattle.schedule_text.proofs.bytes.write_records.Goals as goal

pub loop-i-init : goal.loop-i-init
loop-i-init g c = record {
  gathered = search rules;
  same_length = search rules;
  as_many = c.how_many-count.ensures;
  short = rw c.record_length-size.ensures (record_longest _);
  rest = from_first _ _ _ _;
}

pub returns-then-not-put_lawful : goal.returns-then-not-put_lawful
returns-then-not-put_lawful g c =
    let inside : c.loop-i.i < length (threads_of c.args.row c.args.numbers.now) = omega (arith, c.loop-i.invariant.as_many) in
    let answered = sym (c.put_lawful.ensures ∙ ap (lawful_record _) c.record_at-item.ensures) ∙ c.if-not-put_lawful.true in
    sym (c.loop-i.invariant.rest ∙ one-unlawful _ _ _ _ _ inside answered)

pub loop-i-preserved : goal.loop-i-preserved
loop-i-preserved g c =
    let inside : c.loop-i.i < length (threads_of c.args.row c.args.numbers.now) = omega (arith, c.loop-i.invariant.as_many) in
    let answered = sym (c.put_lawful.ensures ∙ ap (lawful_record _) c.record_at-item.ensures) ∙ c.if-not-put_lawful.false in
    record {
      gathered = search rules;
      same_length = search rules;
      as_many = c.loop-i.invariant.as_many;
      short = c.loop-i.invariant.short;
      rest = c.loop-i.invariant.rest ∙ one-lawful _ _ _ _ _ inside answered;
    }

pub returns : goal.returns
returns g c = sym (c.loop-i.invariant.rest ∙ all-lawful _ _ _ _ _ (omega (arith, c.loop-i.invariant.as_many, c.loop-i-test.false)))
