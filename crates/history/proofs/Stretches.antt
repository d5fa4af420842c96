-- Stretches place by place.
use Rattle.std.proofs.Common.{◌≡◌, ℕ, zero, suc, ◌+◌, ◌-◌, ◌<◌, ◌≤◌, Bool, true, false, cond, ◌||◌, ◌⊎◌, List, [], ◌∷◌, ◌++◌, length, get_or, take, drop, Some, None, sum, Option, sym, refl, ap, ◌∙◌, inl, inr, ⊎_elim, add-zero, arith, length-append, length-drop}
use Rattle.std.proofs.lemmas.List.FromFn.{get_or-map-range_with_len, length-map-range_with_len}
use Rattle.std.proofs.lemmas.List.{get_or_append_left, get_or-append_right, get_or-take, get_or-drop, length-take-le}
use Rattle.std.proofs.lemmas.List.Sums.{sum_by-cons}
use Rattle.std.proofs.lemmas.Bool.{or_parts, or_from, cases_lt, cases_eq, and_from, le-leb, lt-ltb}
use Rattle.history.specs.Stretches.{over, in_stretch, overwritten, rewritten, first_where, any_where, total}

pub length_over : {X : Type 0} (a n : ℕ) (f : ℕ → X) → length (over a n f) ≡ n
length_over a n f = length-map-range_with_len f a n

pub get_or-over : {X : Type 0} (n : ℕ) (f : ℕ → X) (i : ℕ) (d : X) → i < n → get_or (over 0 n f) i d ≡ f i
get_or-over n f i d h = get_or-map-range_with_len f 0 n i i d h (omega arith)

pub in_stretch_lem : (a len i : ℕ) → a ≤ i → i < a + len → in_stretch a len i ≡ true
in_stretch_lem a len i low high = and_from _ _ (le-leb a i low) (lt-ltb i (a + len) high)

module _ {X : Type 0} (a : ℕ) (ys xs : List X) (fits : a + length ys ≤ length xs) where
  front_long : length (take a xs) ≡ a
  front_long = length-take-le a xs (omega arith)

  pub length-overwritten : length (overwritten a ys xs) ≡ length xs
  length-overwritten = omega (arith, length-append (take a xs) (ys ++ drop (length ys) (drop a xs)), length-append ys (drop (length ys) (drop a xs)), length-drop (length ys) (drop a xs), length-drop a xs, front_long)

  pub get_or-overwritten : (i : ℕ) (d : X) → a ≤ i → i < a + length ys → get_or (overwritten a ys xs) i d ≡ get_or ys (i - a) d
  get_or-overwritten i d low high =
      get_or-append_right (take a xs) (ys ++ drop (length ys) (drop a xs)) a i d front_long low ∙ get_or_append_left ys (drop (length ys) (drop a xs)) d (i - a) (omega arith)

  pub get_or_overwritten_before : (i : ℕ) (d : X) → i < a → get_or (overwritten a ys xs) i d ≡ get_or xs i d
  get_or_overwritten_before i d low = get_or_append_left (take a xs) (ys ++ drop (length ys) (drop a xs)) d i (omega (arith, front_long)) ∙ get_or-take a xs i d low

  pub get_or_overwritten_behind : (i : ℕ) (d : X) → a + length ys ≤ i → get_or (overwritten a ys xs) i d ≡ get_or xs i d
  get_or_overwritten_behind i d high =
      let on : a + (length ys + (i - a - length ys)) ≡ i = omega arith in
      get_or-append_right (take a xs) (ys ++ drop (length ys) (drop a xs)) a i d front_long (omega arith)
      ∙ get_or-append_right ys (drop (length ys) (drop a xs)) (length ys) (i - a) d refl (omega arith)
      ∙ get_or-drop (length ys) (drop a xs) (i - a - length ys) d
      ∙ get_or-drop a xs (length ys + (i - a - length ys)) d
      ∙ ap (λ j. get_or xs j d) on

module _ {X : Type 0} (a len : ℕ) (f : ℕ → X) (xs : List X) (fits : a + len ≤ length xs) where
  long : length (over a len f) ≡ len
  long = length_over a len f

  fits' : a + length (over a len f) ≤ length xs
  fits' = omega (arith, long)

  pub length-rewritten : length (rewritten a len f xs) ≡ length xs
  length-rewritten = length-overwritten a (over a len f) xs fits'

  pub get_or-rewritten : (i : ℕ) (d : X) → a ≤ i → i < a + len → get_or (rewritten a len f xs) i d ≡ f i
  get_or-rewritten i d low high =
      get_or-overwritten a (over a len f) xs fits' i d low (omega (arith, long)) ∙ get_or-map-range_with_len f a len (i - a) i d (omega arith) (omega arith)

  pub get_or_rewritten_before : (i : ℕ) (d : X) → i < a → get_or (rewritten a len f xs) i d ≡ get_or xs i d
  get_or_rewritten_before = get_or_overwritten_before a (over a len f) xs fits'

  pub get_or_rewritten_behind : (i : ℕ) (d : X) → a + len ≤ i → get_or (rewritten a len f xs) i d ≡ get_or xs i d
  get_or_rewritten_behind i d high = get_or_overwritten_behind a (over a len f) xs fits' i d (omega (arith, long))

-- a place lies in the stretch or outside of it
pub in_or_out : (a len i : ℕ) → ((a ≤ i) × (i < a + len)) ⊎ ((i < a) ⊎ (a + len ≤ i))
in_or_out a len i = ⊎_elim (λ below. inr (inl below)) (λ low. ⊎_elim (λ high. inl (low, high)) (λ past. inr (inr past)) (cases_lt i (a + len))) (cases_lt i a)

pub total_ext : (f g : ℕ → ℕ) (a len : ℕ) → ((i : ℕ) → a ≤ i → i < a + len → f i ≡ g i) → total f a len ≡ total g a len
total_ext f g a zero h = refl
total_ext f g a (suc len) h =
    let here : f a ≡ g a = h a (omega arith) (omega arith) in
    let more = total_ext f g (a + 1) len (λ i low high. h i (omega arith) (omega arith)) in
    omega arith

pub total_add : (f : ℕ → ℕ) (a m n : ℕ) → total f a (m + n) ≡ total f a m + total f (a + m) n
total_add f a zero n = let e : a + 0 ≡ a = add-zero a in let z : 0 + n ≡ n = omega arith in ap (total f a) z ∙ ap (λ b. total f b n) (sym e) ∙ (let t : total f (a + 0) n ≡ 0 + total f (a + 0) n = omega arith in t)
total_add f a (suc m) n =
    let s : suc m + n ≡ suc (m + n) = omega arith in
    let e : a + 1 + m ≡ a + suc m = omega arith in
    let more = total_add f (a + 1) m n ∙ ap (λ b. total f (a + 1) m + total f b n) e in
    ap (total f a) s ∙ (let t : f a + total f (a + 1) (m + n) ≡ f a + total f (a + 1) m + total f (a + suc m) n = omega (arith, more) in t)

pub total_le : (f g : ℕ → ℕ) (a len : ℕ) → ((i : ℕ) → a ≤ i → i < a + len → f i ≤ g i) → total f a len ≤ total g a len
total_le f g a zero h = omega arith
total_le f g a (suc len) h =
    let here : f a ≤ g a = h a (omega arith) (omega arith) in
    let more = total_le f g (a + 1) len (λ i low high. h i (omega arith) (omega arith)) in
    omega arith

pub total_plus : (f g : ℕ → ℕ) (a len : ℕ) → total (λ i. f i + g i) a len ≡ total f a len + total g a len
total_plus f g a zero = refl
total_plus f g a (suc len) = let more = total_plus f g (a + 1) len in omega arith

-- a total over a stretch is the sum of the list that stands there
pub total-sum : (f : ℕ → ℕ) (a len : ℕ) (xs : List ℕ) → length xs ≡ len → ((j : ℕ) → j < len → get_or xs j 0 ≡ f (a + j)) → sum xs ≡ total f a len
total-sum f a zero [] long h = refl
total-sum f a zero (x ∷ xs) long h = absurd (omega arith)
total-sum f a (suc len) [] long h = absurd (omega arith)
total-sum f a (suc len) (x ∷ xs) long h =
    let here : x ≡ f (a + 0) = h 0 (omega arith) in
    let at_a : f (a + 0) ≡ f a = ap f (add-zero a) in
    let more = total-sum f (a + 1) len xs (omega arith) (λ j low. h (suc j) (omega arith) ∙ (let e : a + suc j ≡ a + 1 + j = omega arith in ap f e)) in
    sum_by-cons (λ y. y) x xs ∙ (let t : x + sum xs ≡ f a + total f (a + 1) len = omega arith in t)

not_first : (b : Bool) (a : ℕ) (rest : Option ℕ) → cond b (Some a) rest ≡ None → (b ≡ false) × (rest ≡ None)
not_first true a rest e = let z : ◌≡◌ {A = ℕ} 0 1 = cc in absurd (omega arith)
not_first false a rest e = (refl, e)

pub none_where : (p : ℕ → Bool) (a len : ℕ) → first_where p a len ≡ None → (i : ℕ) → a ≤ i → i < a + len → p i ≡ false
none_where p a zero e i low high = absurd (omega arith)
none_where p a (suc len) e i low high =
    let both = not_first (p a) a (first_where p (a + 1) len) e in
    ⊎_elim (λ same. ap p same ∙ both.0) (λ apart. none_where p (a + 1) len both.1 i (let d : i ≡ a → ⊥ = apart in omega arith) (omega arith)) (cases_eq i a)

pub anywhere_no : (p : ℕ → Bool) (a len : ℕ) → any_where p a len ≡ false → (i : ℕ) → a ≤ i → i < a + len → p i ≡ false
anywhere_no p a zero e i low high = absurd (omega arith)
anywhere_no p a (suc len) e i low high =
    let both = or_parts (p a) (any_where p (a + 1) len) e in
    ⊎_elim (λ same. ap p same ∙ both.0) (λ apart. anywhere_no p (a + 1) len both.1 i (let d : i ≡ a → ⊥ = apart in omega arith) (omega arith)) (cases_eq i a)

pub no_anywhere : (p : ℕ → Bool) (a len : ℕ) → ((i : ℕ) → a ≤ i → i < a + len → p i ≡ false) → any_where p a len ≡ false
no_anywhere p a zero h = refl
no_anywhere p a (suc len) h = or_from (p a) (any_where p (a + 1) len) (h a (omega arith) (omega arith)) (no_anywhere p (a + 1) len (λ i low high. h i (omega arith) (omega arith)))

pub anywhere_ext : (p q : ℕ → Bool) (a len : ℕ) → ((i : ℕ) → a ≤ i → i < a + len → p i ≡ q i) → any_where p a len ≡ any_where q a len
anywhere_ext p q a zero h = refl
anywhere_ext p q a (suc len) h = λ j. h a (omega arith) (omega arith) j || anywhere_ext p q (a + 1) len (λ i low high. h i (omega arith) (omega arith)) j
