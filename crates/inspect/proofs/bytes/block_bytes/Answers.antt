use Rattle.std.proofs.Common.{◌≡◌, ℕ, List, [], ◌++◌, take, None, Some, Option, IfSome, ap, ◌∙◌, arith}
use Rattle.std.proofs.lemmas.List.{take-take}
use Rattle.std.specs.Option.{option_map}
use Rattle.inspect.proofs.bytes.block_bytes.Goals as goal

-- known bytes, read up to a limit and cut at the same limit
cut_again : (n : ℕ) (known : Option (List ℕ)) (read cut : List ℕ) → IfSome (option_map (take n) known) (λ xs. read ≡ [] ++ xs) → cut ≡ take n read → IfSome known (λ xs. cut ≡ take n xs)
cut_again n None read cut whole e = tt
cut_again n (Some xs) read cut whole e = e ∙ ap (take n) whole ∙ take-take n n xs (omega arith)

pub returns-clause-value : goal.returns-clause-value
returns-clause-value g c =
    let read = rw (c.take.ensures.limit, c.take.ensures.inner, c.in_ok-bytes.ensures.items) at c.in_ok-read_to_end.ensures.bytes in
    cut_again 327680 (g.R.Read.remaining c.args.input) _ _ read c.truncate.ensures.items
