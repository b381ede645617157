-- The layout of a book of the rules: what its parts are, and what a step on one stock makes of it.
-- Assumes nothing.
use Prim.Native.Nat.{ℕ, zero, suc, ◌*◌, ◌≤◌, ◌<◌, max}
use mathlib.Core.Bool.{Bool, true, false}
use mathlib.Core.List.{List, [], ◌∷◌, map, flatten}
use mathlib.Core.Path.{◌≡◌, refl, sym, ap, ◌∙◌, subst}
use native.Mathlib.Nat.{max-le, le_of_suc-le-suc, not-suc-le-zero}
use native.Mathlib.Omega.{arith}
use borrow.Author.Tests.{ltb-true, ltb-false}
use lib.Dec.{ltb}
use lib.ListN.{length, get_or, set, length-append, length-map, length-replicate, length-drop, get_or-replicate, get_or-append}
use lib.Seq.{ext_get_or}
use Rattle.forms.proofs.Choice.{if_arms}
use Rattle.rules.specs.Stock.{Trade}
use Rattle.rules.specs.Counted.{Counted}
use Rattle.rules.specs.Machine.{Every}
use Rattle.rules.specs.Book.{blank}
use Rattle.stock.specs.View.{Bytes, bytes, view, lay, shaped}
use Rattle.stock.proofs.Laws as stocks
use Rattle.window.specs.Places.{laid}
use Rattle.window.proofs.Laws as window
use Rattle.calls.proofs.Parts.{part_is}
use Rattle.book.specs.Lent.{no_record, bytes_of, with_bytes}
use Rattle.book.specs.Layout.{empty, stock_bytes, layout}
use Rattle.book.specs.Laws.{LayoutIs}
use Rattle.book.proofs.Meaning.{one_meaning}
use Rattle.book.proofs.Rows.{Rows, length_rows, part_row, put_row}

-- ------------------------------------------------------------------ one stock's places

-- a front that fits leaves as many places as there were
length_laid : (n : ℕ) (front xs : List ℕ) → n ≤ length xs → length front ≤ length xs → length (laid n front xs) ≡ length xs
unfolding laid
length_laid n front xs h k =
    let m : max n (length front) ≤ length xs = max-le h k in
    simp (length-append, length-replicate, length-drop) (omega arith)

places_512 : length empty ≡ 512
places_512 = length-replicate {A = ℕ} 512 0

pub length_front : (front : List ℕ) → length front ≤ 512 → length (laid 0 front empty) ≡ 512
length_front front h = length_laid 0 front empty (omega arith) (rw places_512 h) ∙ places_512

-- a place of the empty ones is 0
all_zero : (i : ℕ) → i < 512 → get_or empty i 0 ≡ 0
all_zero i h = get_or-replicate 512 i 0 0 h

-- in front stands what was laid, and behind it all is 0
at_front : (n : ℕ) (front xs : List ℕ) (i : ℕ) → i < length front → get_or (laid n front xs) i 0 ≡ get_or front i 0
unfolding laid
at_front n front xs i h = get_or-append front _ 0 i h

pub behind : (front : List ℕ) (i : ℕ) → length front ≤ i → i < 512 → get_or (laid 0 front empty) i 0 ≡ 0
behind front i h l = (window.laws).freed_are_zero 0 front empty i h ∙ if_arms (λ x. x ≡ 0) (ltb i 0) {x = 0} {y = get_or empty i 0} (λ _. refl) (λ _. all_zero i l)

-- laid over what stood there, behind which all was 0
pub laid_again : (front new : List ℕ) → length front ≤ 512 → length new ≤ 512
    → laid (length front) new (laid 0 front empty) ≡ laid 0 new empty
laid_again front new h k =
    let before = length_front front h in
    let left : length (laid (length front) new (laid 0 front empty)) ≡ 512 =
    length_laid (length front) new (laid 0 front empty) (rw before h) (rw before k) ∙ before in
    ext_get_or 0 _ _ (left ∙ sym (length_front new k)) (λ i l. place i (omega (arith, left)) (ltb i (length new)) refl)
  where
    place : (i : ℕ) → i < 512 → (b : Bool) → ltb i (length new) ≡ b
        → get_or (laid (length front) new (laid 0 front empty)) i 0 ≡ get_or (laid 0 new empty) i 0
    place i l true q = let f = ltb-true i (length new) q in at_front _ new _ i f ∙ sym (at_front 0 new empty i f)
    place i l false q =
        let p = ltb-false i (length new) q in
        (window.laws).freed_are_zero (length front) new (laid 0 front empty) i p
        ∙ if_arms (λ x. x ≡ 0) (ltb i (length front)) {x = 0} {y = get_or (laid 0 front empty) i 0} (λ _. refl)
        (λ z. behind front i (ltb-false i (length front) z) l)
        ∙ sym (behind new i p l)

-- ------------------------------------------------------------------ one stock's bytes

-- a window that fits
abbrev pub Fits : Counted → Type 0
Fits h = length h.whole.window ≤ 512

module _ (h : Counted) (f : Fits h) where
  pub times_512 : length (stock_bytes h).times ≡ 512
  times_512 = length_front (map (λ t. t.at) h.whole.window) (simp length-map f)

  pub prices_512 : length (stock_bytes h).prices ≡ 512
  prices_512 = length_front (map (λ t. t.price) h.whole.window) (simp length-map f)

  pub in_shape_lem : shaped (stock_bytes h) ≡ true
  in_shape_lem = ((stocks.laws).shaped_is (stock_bytes h)).1 (times_512, prices_512)

  pub lay_again : (h' : Counted) → Fits h' → lay h' (stock_bytes h) ≡ stock_bytes h'
  lay_again h' f' =
      simp (laid_over (λ t. t.at), laid_over (λ t. t.price))
    where
      laid_over : (g : Trade → ℕ) → laid (length h.whole.window) (map g h'.whole.window) (laid 0 (map g h.whole.window) empty) ≡ laid 0 (map g h'.whole.window) empty
      laid_over g = let e : length (map g h.whole.window) ≡ length h.whole.window = length-map h.whole.window g in
          rw (← e) (laid_again (map g h.whole.window) (map g h'.whole.window) (rw e f) (simp length-map f'))

-- ------------------------------------------------------------------ a book's bytes

-- an entry of a mapped list, whatever is read past its end
get_d_of : {A B : Type 0} (f : A → B) (l : List A) (i : ℕ) (d : A) (e : B) → i < length l → get_or (map f l) i e ≡ f (get_or l i d)
get_d_of f [] i d e h = absurd (not-suc-le-zero h)
get_d_of f (x ∷ l) zero d e h = refl
get_d_of f (x ∷ l) (suc i) d e h = get_d_of f l i d e (le_of_suc-le-suc h)

map_set : {A B : Type 0} (f : A → B) (l : List A) (i : ℕ) (x : A) → set (map f l) i (f x) ≡ map f (set l i x)
map_set f [] i x = refl
map_set f (y ∷ l) zero x = refl
map_set {B = B} f (y ∷ l) (suc i) x = ap (λ (r : List B). f y ∷ r) (map_set f l i x)

rows : (f : Counted → List ℕ) → ((h : Counted) → Fits h → length (f h) ≡ 512) → (hs : List Counted) → Every Fits hs → Rows (map f hs)
rows f r [] a = tt
rows f r (h ∷ hs) a = (r h a.0, rows f r hs a.1)

module _ (hs : List Counted) (all : Every Fits hs) where
  rows_times : Rows (map (λ h. (stock_bytes h).times) hs)
  rows_times = rows (λ h. (stock_bytes h).times) times_512 hs all

  rows_prices : Rows (map (λ h. (stock_bytes h).prices) hs)
  rows_prices = rows (λ h. (stock_bytes h).prices) prices_512 hs all

  pub length_records : length (layout hs).records ≡ length hs
  length_records = length-map hs (λ h. (stock_bytes h).kept)

  pub length_times : length (layout hs).times ≡ 512 * length hs
  length_times = length_rows (map (λ h. (stock_bytes h).times) hs) rows_times ∙ ap (λ n. 512 * n) (length-map hs (λ h. (stock_bytes h).times))

  pub length_prices : length (layout hs).prices ≡ 512 * length hs
  length_prices = length_rows (map (λ h. (stock_bytes h).prices) hs) rows_prices ∙ ap (λ n. 512 * n) (length-map hs (λ h. (stock_bytes h).prices))

  module _ (i : ℕ) (l : i < length hs) where
    pub bytes_of_lem : (d : Counted) → bytes_of i (layout hs) ≡ stock_bytes (get_or hs i d)
    bytes_of_lem d =
        let kept = get_d_of (λ h. (stock_bytes h).kept) hs i d no_record l in
        let times = part_row (map (λ h. (stock_bytes h).times) hs) rows_times i (simp length-map l) ∙ get_d_of (λ h. (stock_bytes h).times) hs i d [] l in
        let prices = part_row (map (λ h. (stock_bytes h).prices) hs) rows_prices i (simp length-map l) ∙ get_d_of (λ h. (stock_bytes h).prices) hs i d [] l in
        rw (kept, times, prices)

    pub with_bytes_lem : (h' : Counted) → with_bytes i (stock_bytes h') (layout hs) ≡ layout (set hs i h')
    with_bytes_lem h' =
        let kept = map_set (λ h. (stock_bytes h).kept) hs i h' in
        let times = put_row (map (λ h. (stock_bytes h).times) hs) (stock_bytes h').times rows_times i (simp length-map l) ∙ ap flatten (map_set (λ h. (stock_bytes h).times) hs i h') in
        let prices = put_row (map (λ h. (stock_bytes h).prices) hs) (stock_bytes h').prices rows_prices i (simp length-map l) ∙ ap flatten (map_set (λ h. (stock_bytes h).prices) hs i h') in
        rw (kept, times, prices)

-- ------------------------------------------------------------------ entry by entry

-- what stands in a stock's bytes is read of them again
pub read_again : (h : Counted) → view (stock_bytes h) ≡ h
read_again h = (stocks.laws).read_back h (bytes (record { stock = h.whole.stock; count = 0; totals = h.totals }) empty empty)

pub layout_is : LayoutIs
layout_is hs all = record {
  stocks = length_records hs all;
  times = length_times hs all;
  prices = length_prices hs all;
  each = λ i l. (one_meaning i (layout hs) _).1 (sym (ap view (bytes_of_lem hs all i l (blank 0)) ∙ read_again _));
  unused = λ i l j c k.
      let h = get_or hs i (blank 0) in
      let is = bytes_of_lem hs all i l (blank 0) in
      let behind_it : length h.whole.window ≤ j = subst (λ (x : Bytes). x.kept.count ≤ j) is c in (
        sym (sym ((part_is i (layout hs).times).1 j k) ∙ ap (λ (x : Bytes). get_or x.times j 0) is ∙ behind (map (λ t. t.at) h.whole.window) j (simp length-map behind_it) k),
        sym (sym ((part_is i (layout hs).prices).1 j k) ∙ ap (λ (x : Bytes). get_or x.prices j 0) is ∙ behind (map (λ t. t.price) h.whole.window) j (simp length-map behind_it) k),
      );
}
