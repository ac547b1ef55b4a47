-- Where the word `delay` comes next, a number is read.
use Rattle.std.proofs.Common.{◌≡◌, true, codes, ap, ◌∙◌, rules}
use Rattle.script.proofs.Exits.{last_part}
use Rattle.script.proofs.words.Words.delay.Goals as goal
use Rattle.script.specs.Statements.{is, delay}
use Rattle.std.proofs.lemmas.Bool.{cond-true}

pub returns-in-Some : goal.returns-in-Some
returns-in-Some c next =
    let here : is c.in-Some.word.now (codes "delay") ≡ true = search rules in
    last_part c.number.result _ (ap (λ ws. delay ws next) c.in-Some.ensures.steps ∙ cond-true _ _ _ here) (c.number.ensures next)
