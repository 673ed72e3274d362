use Rattle.text.proofs.Text.+number.Given as goal

-- the number falls
abbrev pub decreases-number : goal.decreases-number
decreases-number l = l.n
