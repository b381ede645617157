-- An array of zeros, as a derived default makes it.
-- Assumes nothing.
use Rattle.std.proofs.Common.{ℕ, ◌≡◌, ◌∙◌, List, replicate, sym, arith}
use Rattle.std.proofs.lemmas.List.{ext_get_or, get_or-replicate, length-replicate}
use Rattle.std.specs.Array.{AllOfLen}

pub zeros : (n : ℕ) (xs : List ℕ) → AllOfLen (λ x. x ≡ 0) xs n → xs ≡ replicate n 0
zeros n xs a = ext_get_or 0 xs (replicate n 0) (a.long ∙ sym (length-replicate n 0))
    (λ i h. a.at i 0 (omega (arith, a.long)) ∙ sym (get_or-replicate n i 0 0 (omega (arith, a.long))))
