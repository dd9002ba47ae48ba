use Rattle.std.proofs.Common.{◌≡◌, ⊎_elim, ℕ, ◌+◌, ◌-◌, ◌<◌, ◌≤◌, List, ◌++◌, length, take, drop, min, replicate, sym, ◌∙◌, ap, arith}
use Rattle.std.proofs.Math.Seq.{take-append-add}
use Rattle.std.proofs.lemmas.Bool.{cases_lt}
use Rattle.std.proofs.lemmas.List.{take_all, drop_all, take_rest, drop_min, append-nil, take-append-le, take-replicate, drop-replicate, length-replicate}
use Rattle.board_core.proofs.file.get.Goals as goal

-- as many octets as fit, over a row of 00h, are the first octets of them with 00h behind
padded_front : (xs : List ℕ) (n count : ℕ) → count ≡ min (length xs) n → take count xs ++ drop count (replicate n 0) ≡ take n (xs ++ replicate n 0)
padded_front xs n count e = ⊎_elim longer shorter (cases_lt (length xs) n)
  where
    shorter : n ≤ length xs → take count xs ++ drop count (replicate n 0) ≡ take n (xs ++ replicate n 0)
    shorter le =
        let is : count ≡ n = omega (arith, e, le) in
        (λ i. take (is i) xs ++ drop (is i) (replicate n 0)) ∙ ap (λ l. take n xs ++ l) (drop_all n (replicate n 0) (omega (arith, length-replicate {A = ℕ} n 0))) ∙ append-nil (take n xs) ∙ sym (take-append-le n xs (replicate n 0) le)

    longer : length xs < n → take count xs ++ drop count (replicate n 0) ≡ take n (xs ++ replicate n 0)
    longer lt =
        let is : count ≡ length xs = omega (arith, e, lt) in
        let more : length xs + (n - length xs) ≡ n = omega (arith, lt) in
        (λ i. take (is i) xs ++ drop (is i) (replicate n 0)) ∙ (λ i. take_all (length xs) xs (omega arith) i ++ drop-replicate (length xs) n 0 i)
        ∙ ap (λ l. xs ++ l) (sym (take-replicate (n - length xs) n 0 (omega arith))) ∙ sym (take-append-add xs (replicate n 0) (n - length xs)) ∙ ap (λ k. take k (xs ++ replicate n 0)) more

pub returns : goal.returns
returns c =
    let file = c.args.file.now in
    let left = drop c.args.place file in
    let from : take (length file - c.min.result) (drop c.min.result file) ≡ left = take_rest file c.min.result ∙ ap (λ n. drop n file) c.min.ensures ∙ drop_min c.args.place file in
    let count : c.min-held.result ≡ min (length left) (length c.args.into.now) = omega (arith, c.min-held.ensures, ap length from) in
    let zeros : c.fill.new.self ≡ replicate (length c.args.into.now) 0 = c.fill.ensures.after (λ y e. e) in
    let got : c.copy_from_slice.new.self ≡ take c.min-held.result left = c.copy_from_slice.ensures.after ∙ ap (take c.min-held.result) from in
    (λ i. got i ++ drop c.min-held.result (zeros i)) ∙ padded_front left (length c.args.into.now) c.min-held.result count
