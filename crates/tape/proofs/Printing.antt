-- What is put into a slice of bytes: digits, fields, lines.
-- Assumes nothing.
use Prim.Native.Nat.{ℕ, zero, suc, ◌+◌, ◌-◌, ◌*◌, ◌^◌, ◌/◌, ◌%◌, ◌≤◌, ◌<◌}
use mathlib.Core.Bool.{Bool, true, false}
use mathlib.Core.List.{List, [], ◌∷◌, ◌++◌, map, append_assoc, append-nil}
use mathlib.Core.Path.{◌≡◌, refl, sym, ap, ◌∙◌}
use native.Mathlib.Nat.{add-suc, suc-add, add-zero, pow-suc, div-lt_iff_lt-mul, mod-eq_of_lt, zero-lt-suc}
use native.Mathlib.Numerals.{add-one}
use native.Mathlib.Omega.{arith}
use borrow.Author.Tests.{lt-ltb, le-ltb, ltb-true, ltb-false}
use lib.Dec.{ltb}
use lib.ListN.{length, get_or, set, take, length-append}
use lib.Seq.{append_snoc, sets, take-suc, take_all, length-take-le}
use Rattle.forms.proofs.Choice.{if_true, if_false, goes, arms, tests}
use Rattle.std.proofs.lemmas.List.{map-append}
use Rattle.tape.specs.Lines.{parted}
use Rattle.tape.specs.Printing.{decimal, digits, two, ahead, printed, Printed, printing}

-- ------------------------------------------------------------------ stores one after the other

pub sets_append : {A : Type 0} (l : List A) (i : ℕ) (vs ws : List A) → sets l i (vs ++ ws) ≡ sets (sets l i vs) (i + length vs) ws
sets_append l i [] ws = rw (add-zero i)
sets_append l i (v ∷ vs) ws = rw (add-suc i (length vs), ← suc-add i (length vs)) (sets_append (set l i v) (suc i) vs ws)

-- one text behind another
pub behind : (o p q vs ws : List ℕ) (at a : ℕ) → a ≡ at + length vs → p ≡ sets o at vs → q ≡ sets p a ws → q ≡ sets o at (vs ++ ws)
behind o p q vs ws at a e f g = rw (g, f, e, ← sets_append o at vs ws)

pub behind_to : (vs ws : List ℕ) (at a b : ℕ) → a ≡ at + length vs → b ≡ a + length ws → b ≡ at + length (vs ++ ws)
behind_to vs ws at a b e f = rw (length-append vs ws) (omega arith)

-- ------------------------------------------------------------------ digits

-- a number below ten is one digit, and any other is the digits of a tenth of it and one more
pub low : (most n : ℕ) → n < 10 → decimal (suc most) n ≡ (48 + n) ∷ []
unfolding decimal
low most n h = simp (lt-ltb n 10 h, if_true, mod-eq_of_lt h)

pub high : (most n : ℕ) → 10 ≤ n → decimal (suc most) n ≡ decimal most (n / 10) ++ ((48 + n % 10) ∷ [])
unfolding decimal
high most n h = simp (le-ltb n 10 h, if_false)

-- a tenth of it is below a tenth of the power
pub tenth : (n k : ℕ) → n < 10 ^ suc k → n / 10 < 10 ^ k
tenth n k h = (div-lt_iff_lt-mul {k = 10} (zero-lt-suc 9)).1 (rw (pow-suc 10 k) at h)

-- a number is below ten or not
pub below_or_not : {A : Type 0} (n : ℕ) → (n < 10 → A) → (10 ≤ n → A) → A
below_or_not {A = A} n f g = go (ltb n 10) refl
  where
    go : (b : Bool) → ltb n 10 ≡ b → A
    go true e = f (ltb-true n 10 e)
    go false e = g (ltb-false n 10 e)

-- more than enough digits are enough
enough : (most n : ℕ) → n < 10 ^ suc most → decimal (suc (suc most)) n ≡ decimal (suc most) n
enough zero n h = low 1 n h ∙ sym (low 0 n h)
enough (suc most) n h =
    below_or_not n (λ l. low (suc (suc most)) n l ∙ sym (low (suc most) n l))
    (λ k. high (suc (suc most)) n k ∙ ap (λ l. l ++ ((48 + n % 10) ∷ [])) (enough most (n / 10) (tenth n (suc most) h)) ∙ sym (high (suc most) n k))

pub digits_low : (n : ℕ) → n < 10 → digits n ≡ (48 + n) ∷ []
unfolding digits
digits_low n h = low 19 n h

pub digits_high : (n : ℕ) → 10 ≤ n → n < 18_446_744_073_709_551_616 → digits n ≡ digits (n / 10) ++ ((48 + n % 10) ∷ [])
unfolding digits
digits_high n h k = high 19 n h ∙ ap (λ l. l ++ ((48 + n % 10) ∷ [])) (sym (enough 18 (n / 10) (omega arith)))

decimal_most : (most n : ℕ) → length (decimal most n) ≤ most
unfolding decimal
decimal_most zero n = omega arith
decimal_most (suc most) n =
    below_or_not n (λ l. rw (low most n l) (omega arith)) (λ k. rw (high most n k, length-append) (omega (arith, decimal_most most (n / 10))))

pub digits_most : (n : ℕ) → length (digits n) ≤ 20
unfolding digits
digits_most n = decimal_most 20 n

-- two digits, and two behind those of a hundredth
digits_two : (n : ℕ) → 10 ≤ n → n < 100 → digits n ≡ two n
digits_two n h k = digits_high n h (omega arith) ∙ rw (digits_low (n / 10) (omega arith))

digits_more : (n : ℕ) → 100 ≤ n → n < 18_446_744_073_709_551_616 → digits n ≡ digits (n / 100) ++ two (n % 100)
digits_more n h k =
    let a : n / 10 / 10 ≡ n / 100 = omega arith in
    let b : n / 10 % 10 ≡ n % 100 / 10 = omega arith in
    let c : n % 10 ≡ n % 100 % 10 = omega arith in
    digits_high n (omega arith) k ∙ rw (digits_high (n / 10) (omega arith) (omega arith), a, b, c, append_snoc (digits (n / 100)) (48 + n % 100 / 10) ((48 + n % 100 % 10) ∷ []))

-- ------------------------------------------------------------------ what `number` puts

pub pair_out : (o p q : List ℕ) (at to n : ℕ) → to ≡ at + 1 → p ≡ set o at (48 + n / 10) → q ≡ set p to (48 + n % 10) → q ≡ sets o at (two n)
pair_out o p q at to n e f g = rw (g, f, e, add-one at)

pub one_to : (at n r : ℕ) → n < 10 → r ≡ at + 1 → r ≡ at + length (digits n)
one_to at n r h e = rw (digits_low n h) e

pub one_out : (o q : List ℕ) (at n : ℕ) → n < 10 → q ≡ set o at (48 + n) → q ≡ sets o at (digits n)
one_out o q at n h e = rw (digits_low n h) e

pub two_to : (at n r : ℕ) → 10 ≤ n → n < 100 → r ≡ at + 2 → r ≡ at + length (digits n)
two_to at n r h k e = rw (digits_two n h k) e

pub two_out : (o q : List ℕ) (at n : ℕ) → 10 ≤ n → n < 100 → q ≡ sets o at (two n) → q ≡ sets o at (digits n)
two_out o q at n h k e = rw (digits_two n h k) e

module _ (o : List ℕ) (at n to : ℕ) (h : 100 ≤ n) (k : n < 18_446_744_073_709_551_616) (e : to ≡ at + length (digits (n / 100))) where
  pub more_to : (r : ℕ) → r ≡ to + 2 → r ≡ at + length (digits n)
  more_to r f = rw (digits_more n h k) (behind_to (digits (n / 100)) (two (n % 100)) at to r e f)

  pub more_most : (r : ℕ) → r ≡ to + 2 → r ≤ at + 20
  more_most r f = omega (arith, more_to r f, digits_most n)

  pub more_out : (p q : List ℕ) → p ≡ sets o at (digits (n / 100)) → q ≡ sets p to (two (n % 100)) → q ≡ sets o at (digits n)
  more_out p q f g = rw (digits_more n h k) (behind o p q (digits (n / 100)) (two (n % 100)) at to e f g)

  -- the places of the last two digits are there
  pub more_room : (p : List ℕ) → at + 20 ≤ length o → length p ≡ length o → to + 2 ≤ length p
  more_room p l m = omega (arith, more_most (to + 2) refl)

-- ------------------------------------------------------------------ what `field` and `fields` put

parted_one : (w : List ℕ) → parted (w ∷ []) ≡ 32 ∷ w
unfolding parted
parted_one w = rw (append-nil w)

parted_append : (ws vs : List (List ℕ)) → parted (ws ++ vs) ≡ parted ws ++ parted vs
unfolding parted
parted_append [] vs = refl
parted_append (w ∷ ws) vs = rw (parted_append ws vs, append_assoc w (parted ws) (parted vs))

pub field_to : (at n r : ℕ) → r ≡ at + 1 + length (digits n) → r ≡ at + length (parted (digits n ∷ []))
field_to at n r e = rw (parted_one (digits n)) (omega arith)

pub field_out : (o q : List ℕ) (at n : ℕ) → q ≡ sets (set o at 32) (at + 1) (digits n) → q ≡ sets o at (parted (digits n ∷ []))
field_out o q at n e = rw (parted_one (digits n)) (rw (add-one at) at e)

-- one number more
one_more : (ns : List ℕ) (i : ℕ) → i < length ns → parted (map digits (take (i + 1) ns)) ≡ parted (map digits (take i ns)) ++ parted (digits (get_or ns i 0) ∷ [])
one_more ns i h = rw (add-one i, take-suc ns i 0 h, map-append digits (take i ns) (get_or ns i 0 ∷ []), parted_append)

pub fields_to : (ns : List ℕ) (n i at to r : ℕ) → n ≡ length ns → i < n → to ≡ at + length (parted (map digits (take i ns)))
    → r ≡ to + length (parted (digits (get_or ns i 0) ∷ [])) → r ≡ at + length (parted (map digits (take (i + 1) ns)))
fields_to ns n i at to r m h e f = rw (one_more ns i (omega arith)) (behind_to (parted (map digits (take i ns))) _ at to r e f)

pub fields_out : (ns o p q : List ℕ) (n i at to : ℕ) → n ≡ length ns → i < n → to ≡ at + length (parted (map digits (take i ns)))
    → p ≡ sets o at (parted (map digits (take i ns))) → q ≡ sets p to (parted (digits (get_or ns i 0) ∷ []))
    → q ≡ sets o at (parted (map digits (take (i + 1) ns)))
fields_out ns o p q n i at to m h e f g = rw (one_more ns i (omega arith)) (behind o p q (parted (map digits (take i ns))) _ at to e f g)

-- all of them
pub fields_all_to : (ns : List ℕ) (n i at to : ℕ) → n ≡ length ns → n ≤ i → to ≡ at + length (parted (map digits (take i ns)))
    → to ≡ at + length (parted (map digits ns))
fields_all_to ns n i at to m h e = rw (take_all i ns (omega arith)) at e

-- each takes a space and at most twenty digits
pub fields_most : (ns : List ℕ) → length (parted (map digits ns)) ≤ 21 * length ns
unfolding parted
fields_most [] = omega arith
fields_most (n ∷ ns) = rw (length-append (digits n) (parted (map digits ns))) (omega (arith, digits_most n, fields_most ns))

pub fields_below : (ns : List ℕ) (n i at to : ℕ) → n ≡ length ns → length ns ≤ 16 → n ≤ i → to ≡ at + length (parted (map digits (take i ns))) → to ≤ at + 336
fields_below ns n i at to m k h e = omega (arith, fields_all_to ns n i at to m h e, fields_most ns)

-- there is room for one more
pub field_room : (ns o p : List ℕ) (n at to i : ℕ) → n ≡ length ns → length ns ≤ 16 → at + 336 ≤ length o → length p ≡ length o → i < n
    → to ≡ at + length (parted (map digits (take i ns))) → to + 21 ≤ length p
field_room ns o p n at to i m h k l j e = omega (arith, fields_most (take i ns), length-take-le i ns (omega arith))

-- ------------------------------------------------------------------ what `line` puts

-- what stands before the numbers is put in three parts
parts : (stock time letter : ℕ) → ahead stock time letter ≡ digits stock ++ parted (digits time ∷ []) ++ (32 ∷ letter ∷ [])
unfolding ahead parted
parts stock time letter = simp (append_assoc, append-nil)

module _ (stock time letter at a b : ℕ) (e : a ≡ at + length (digits stock)) (f : b ≡ a + length (parted (digits time ∷ []))) where
  to_time : b ≡ at + length (digits stock ++ parted (digits time ∷ []))
  to_time = behind_to (digits stock) _ at a b e f

  pub head_to : (r : ℕ) → r ≡ b + 2 → r ≡ at + length (ahead stock time letter)
  head_to r g = rw (parts stock time letter) (behind_to (digits stock ++ parted (digits time ∷ [])) (32 ∷ letter ∷ []) at b r to_time g)

  pub head_out : (o p q s : List ℕ) → p ≡ sets o at (digits stock) → q ≡ sets p a (parted (digits time ∷ [])) → s ≡ set (set q b 32) (b + 1) letter
      → s ≡ sets o at (ahead stock time letter)
  head_out o p q s g h i =
      rw (parts stock time letter)
      (behind o q s (digits stock ++ parted (digits time ∷ [])) (32 ∷ letter ∷ []) at b to_time (behind o p q (digits stock) _ at a e g h) (rw (add-one b) at i))

module _ (stock time letter at b c : ℕ) (ns : List ℕ) (e : b ≡ at + length (ahead stock time letter)) (f : c ≡ b + length (parted (map digits ns))) where
  to_numbers : c ≡ at + length (ahead stock time letter ++ parted (map digits ns))
  to_numbers = behind_to (ahead stock time letter) _ at b c e f

  pub line_to : (r : ℕ) → r ≡ c + 1 → r ≡ at + length (printed stock time letter ns)
  unfolding printed
  line_to r g = behind_to (ahead stock time letter ++ parted (map digits ns)) (10 ∷ []) at c r to_numbers g

  pub line_out : (o p q s : List ℕ) → p ≡ sets o at (ahead stock time letter) → q ≡ sets p b (parted (map digits ns)) → s ≡ set q c 10
      → s ≡ sets o at (printed stock time letter ns)
  unfolding printed
  line_out o p q s g h i =
      behind o q s (ahead stock time letter ++ parted (map digits ns)) (10 ∷ []) at c to_numbers (behind o p q (ahead stock time letter) _ at b e g h) i

-- ------------------------------------------------------------------ what `print` gives

pub print_done : (bytes out ns : List ℕ) (at stock time letter r : ℕ) → length ns ≤ 16 → 380 ≤ length bytes - at
    → r ≡ at + length (printed stock time letter ns) → out ≡ sets bytes at (printed stock time letter ns)
    → ◌≡◌ {A = Printed} (record { to = r; bytes = out }) (printing bytes at stock time letter ns)
unfolding printing
print_done bytes out ns at stock time letter r h k e f =
    let room : at + 380 ≤ length bytes = omega arith in
    goes _ _ _ _ (search (tests, room)) (rw (e, f))

pub print_short : (bytes ns : List ℕ) (at stock time letter : ℕ) → length bytes - at < 380
    → ◌≡◌ {A = Printed} (record { to = at; bytes = bytes }) (printing bytes at stock time letter ns)
unfolding printing
print_short bytes ns at stock time letter h =
    let short : length bytes < at + 380 = omega arith in
    search (arms, tests, short)
