-- What is played of an input that goes on.
use mathlib.Core.Path.{◌≡◌, sym, ap, ◌∙◌}
use mathlib.Core.Bool.{true, false}
use mathlib.Core.List.{List, ◌++◌}
use Prim.Native.Nat.{ℕ, ◌+◌}
use lib.ListN.{length, drop}
use lib.Seq.{drop-drop}
use Rattle.model.specs.Decoding.{front}
use Rattle.model.specs.RecordBytes.{lawful}
use Rattle.model.specs.Bondtrace.{Tally}
use Rattle.pieces.specs.Playing.{Progress, ahead, played_on}
use Rattle.pieces.proofs.Playing.{behind, further, ahead_none, ahead-again, played-stops, played-more, of_all-played}
use Rattle.pieces.proofs.Fronts.{whole_if_lawful, whole-stays, front-stays, behind-stays}

module _ (more : List ℕ) where
  -- a lawful record at the front is played whatever comes in
  one-before-more : (p : Tally) (input : List ℕ) → lawful false (front input) ≡ true
      → played_on p (input ++ more) ≡ ahead (length (front input)) (played_on (further p input) (behind input ++ more))
  one-before-more p input e =
      let same : front (input ++ more) ≡ front input = front-stays input (whole_if_lawful false input e) more in
      rw (same, behind-stays input more) at (played-more p (input ++ more) (rw same e))

  -- where playing stopped at an unlawful record, what comes in changes nothing
  pub bad-stays : (p : Tally) (input : List ℕ) → (played_on p input).bad ≡ true → played_on p (input ++ more) ≡ played_on p input
  unfolding ahead
  bad-stays = of_all-played (λ p input q. q.bad ≡ true → played_on p (input ++ more) ≡ q)
      (λ p input e whole. played-stops p (input ++ more) (rw (front-stays input whole more) e)
      ∙ λ i. record { tally = p; taken = 0; bad = (whole-stays input whole more ∙ sym whole) i })
      (λ p input q e h bad. one-before-more p input e ∙ ap (ahead (length (front input))) (h bad))

  -- where it did not, it goes on with what was left and what comes in
  pub goes_on : (p : Tally) (input : List ℕ) → (played_on p input).bad ≡ false
      → played_on p (input ++ more) ≡ ahead (played_on p input).taken (played_on (played_on p input).tally (drop (played_on p input).taken input ++ more))
  unfolding ahead
  goes_on = of_all-played (λ p input q. q.bad ≡ false → played_on p (input ++ more) ≡ ahead q.taken (played_on q.tally (drop q.taken input ++ more)))
      (λ p input e fine. ahead_none _)
      (λ p input q e h fine. one-before-more p input e ∙ ap (ahead (length (front input))) (h fine) ∙ joined input q)
    where
      joined : (input : List ℕ) (q : Progress) → let k = length (front input) in
          ahead k (ahead q.taken (played_on q.tally (drop q.taken (behind input) ++ more))) ≡ ahead (k + q.taken) (played_on q.tally (drop (k + q.taken) input ++ more))
      joined input q = rw drop-drop (ahead-again (length (front input)) q.taken _)
