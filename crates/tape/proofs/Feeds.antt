-- Where a line ends.
-- Assumes nothing.
use Prim.Native.Nat.{ℕ, suc, ◌+◌, ◌≤◌, ◌<◌}
use mathlib.Core.Bool.{Bool, true, false, not}
use mathlib.Core.List.{List, [], ◌∷◌, ◌++◌}
use mathlib.Core.Path.{◌≡◌, refl, ap, ◌∙◌}
use native.Mathlib.Nat.{not-suc-le-zero}
use native.Mathlib.Omega.{arith}
use borrow.Author.Tests.{not-true, ltb-false}
use lib.Dec.{eqb}
use lib.ListN.{length}
use Rattle.std.specs.Prelude.{Option, Some, None, cond, nat_lt, position, ◌==◌}
use Rattle.std.specs.List.{position_or_len}
use Rattle.std.specs.Option.{unwrap_or}
use Rattle.std.proofs.lemmas.List.Sums.{prefix_len-le-length}
use Rattle.forms.specs.Choice.{if◌then◌otherwise◌}
use Rattle.forms.specs.Tables.{every}
use Rattle.forms.proofs.Choice.{if_false, all_head, all_tail, all_leb, all_yes, all_empty, ne_not}
use Rattle.tape.specs.Lines.{is_digit, is_number, parted, numbers_after, numbers_in, IsLine, index_of, to_feed}
use Rattle.tape.proofs.Scanning.{all_digits}

-- where the first b stands, or else all bytes: that is how many bytes stand before it
index_is : (b : ℕ) (text : List ℕ) → position_or_len (λ c. c == b) text ≡ index_of b text
unfolding index_of if◌then◌otherwise◌
index_is b [] = refl
index_is b (c ∷ text) = go (eqb c b) (position_or_len (λ c. c == b) text) (index_is b text)
  where
    go : (x : Bool) (n : ℕ) → n ≡ index_of b text → cond (not x) (1 + n) 0 ≡ (if x then 0 otherwise suc (index_of b text))
    go true n e = refl
    go false n e = omega arith

pub first_of : (b : ℕ) (text : List ℕ) (o : Option ℕ) (k : ℕ) → o ≡ position (λ c. c == b) text → k ≡ unwrap_or o (length text) → k ≡ index_of b text
first_of b text o k f e = e ∙ ap (λ x. unwrap_or x (length text)) f ∙ go (nat_lt n (length text)) refl ∙ index_is b text
  where
    n : ℕ
    n = position_or_len (λ c. c == b) text

    go : (x : Bool) → nat_lt n (length text) ≡ x → unwrap_or (cond x (Some n) None) (length text) ≡ n
    go true q = refl
    go false q = omega (arith, ltb-false n (length text) q, prefix_len-le-length (λ c. not (c == b)) text)

-- ------------------------------------------------------------------ no byte of a line is a line feed

abbrev other : ℕ → Bool
other c = not (eqb c 10)

feed_behind : (text rest : List ℕ) → every other text ≡ true → to_feed (text ++ 10 ∷ rest) ≡ length text
unfolding every index_of if◌then◌otherwise◌
feed_behind [] rest e = refl
feed_behind (c ∷ text) rest e =
    if_false _ _ _ (not-true (eqb c 10) (all_head _ _ e)) ∙ ap suc (feed_behind text rest (all_tail _ _ e))

pub every_append : (f : ℕ → Bool) (xs ys : List ℕ) → every f xs ≡ true → every f ys ≡ true → every f (xs ++ ys) ≡ true
unfolding every
every_append f [] ys e g = g
every_append f (x ∷ xs) ys e g = all_yes _ _ (all_head _ _ e) (every_append f xs ys (all_tail _ _ e) g)

others : (c : ℕ) → (c ≡ 10 → ⊥) → other c ≡ true
others c h = ne_not c 10 h

digits_other : (w : List ℕ) → every is_digit w ≡ true → every other w ≡ true
unfolding every is_digit
digits_other [] e = all_empty
digits_other (c ∷ w) e =
    let h : 48 ≤ c = all_leb _ _ _ (all_head _ _ e) in
    all_yes _ _ (others c (λ q. absurd (omega arith))) (digits_other w (all_tail _ _ e))

words_other : (ws : List (List ℕ)) → every is_number ws ≡ true → every other (parted ws) ≡ true
unfolding every parted
words_other [] e = all_empty
words_other (w ∷ ws) e =
    all_yes _ _ (others 32 (λ q. absurd (omega arith))) (every_append other w (parted ws) (digits_other w (all_digits w (all_head _ _ e))) (words_other ws (all_tail _ _ e)))

feed_letter : (letter : ℕ) → 0 < numbers_after letter → letter ≡ 10 → ⊥
unfolding numbers_in if◌then◌otherwise◌
feed_letter letter h e = not-suc-le-zero (rw e at h)

pub line_ends : (text rest : List ℕ) (letter : ℕ) (ws : List (List ℕ)) → IsLine text letter ws → to_feed (text ++ 10 ∷ rest) ≡ length text
unfolding every
line_ends text rest letter ws p =
    let o : every other (letter ∷ parted ws) ≡ true = all_yes _ _ (others letter (feed_letter letter p.known)) (words_other ws p.numbers) in
    rw p.written (feed_behind (letter ∷ parted ws) rest o)
