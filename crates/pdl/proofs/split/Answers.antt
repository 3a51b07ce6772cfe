use Rattle.std.proofs.Common.{◌≡◌, ◌∙◌, rules, tests}
use Rattle.std.specs.List.{prefix_len}
use Rattle.std.proofs.lemmas.Iterator.{YieldsList-from_slice}
use Rattle.std.proofs.lemmas.Iterator.Consumers.{count_from_yields_List}
use Rattle.std.proofs.lemmas.Iterator.Search.{YieldsList-from_take_while}
use Rattle.std.proofs.lemmas.List.Folds.{length-prefix_len}
use Rattle.pdl.specs.Parse.{member}
use Rattle.pdl.proofs.split.Goals as goal

pub returns : goal.returns
returns c =
    let p = member c.args.class in
    let text = c.args.text.now in
    let front : c.count-front.result ≡ prefix_len p text =
    count_from_yields_List c.take_while.result _ c.count-front.ensures.ran (YieldsList-from_take_while _ p (YieldsList-from_slice text cc) c.take_while.ensures.closure c.take_while.ensures.done (λ x b q k. search (rules, tests)))
    ∙ length-prefix_len p text in
    record { first = cc; second = cc }
