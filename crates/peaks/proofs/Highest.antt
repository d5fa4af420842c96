-- The six highest of a row of counts, kept while the row is gone through.
use Rattle.std.proofs.Common.{◌≡◌, ℕ, zero, suc, ◌+◌, ◌<◌, ◌≤◌, min, max, true, false, List, [], ◌∷◌, ◌++◌, length, get_or, take, drop, replicate, fold, sym, refl, ap, ◌∙◌, arith, lit<}
use Rattle.std.proofs.lemmas.List.{take_all, drop_all, get_or-take, length-replicate}
use Rattle.intervals.specs.Conditions.{sound}
use Rattle.intervals.specs.declared.interval.Interval.{Interval}
use Rattle.intervals.specs.Intervals.{no_interval}
use Rattle.peaks.specs.Ranks.{entered, falling}
use Rattle.peaks.specs.Counts.{sound_counts, peak, spike_of}
use Rattle.std.proofs.lemmas.Grind.{common_steps}

-- the ranks below the first n have no say in them
take-entered : (n : ℕ) (ys : List ℕ) (x : ℕ) → take n (entered (take n ys) x) ≡ take n (entered ys x)
take-entered zero ys x = refl
take-entered (suc n) [] x = refl
take-entered (suc n) (y ∷ ys) x = ap (λ zs. max x y ∷ zs) (take-entered n ys (min x y))

-- one step of the scan, which keeps n ranks
abbrev pub kept : ℕ → List ℕ → ℕ → List ℕ
kept n hs x = take n (entered hs x)

take_folded : (n : ℕ) (xs ys : List ℕ) → fold (kept n) (take n ys) xs ≡ take n (fold entered ys xs)
take_folded n [] ys = refl
take_folded n (x ∷ xs) ys = ap (λ zs. fold (kept n) zs xs) (take-entered n ys x) ∙ take_folded n xs (entered ys x)

entered_zeros : (n x : ℕ) → entered (replicate n 0) x ≡ x ∷ replicate n 0
entered_zeros zero x = refl
entered_zeros (suc n) x =
    let a : max x 0 ≡ x = omega arith in
    let b : min x 0 ≡ 0 = omega arith in
    rw (a, b) (ap (λ zs. x ∷ zs) (entered_zeros n 0))

-- ranks that are not filled yet hold 0
entered_past : (ys : List ℕ) (n x : ℕ) → entered (ys ++ replicate n 0) x ≡ entered ys x ++ replicate n 0
entered_past [] n x = entered_zeros n x
entered_past (y ∷ ys) n x = ap (λ zs. max x y ∷ zs) (entered_past ys n (min x y))

folded_past : (xs ys : List ℕ) (n : ℕ) → fold entered (ys ++ replicate n 0) xs ≡ fold entered ys xs ++ replicate n 0
folded_past [] ys n = refl
folded_past (x ∷ xs) ys n = ap (λ zs. fold entered zs xs) (entered_past ys n x) ∙ folded_past xs (entered ys x) n

get_or_zeros : (n k : ℕ) → ◌≡◌ {A = ℕ} (get_or (replicate n 0) k 0) 0
get_or_zeros zero k = refl
get_or_zeros (suc n) zero = refl
get_or_zeros (suc n) (suc k) = get_or_zeros n k

get_or_past_zeros : (ys : List ℕ) (n k : ℕ) → get_or (ys ++ replicate n 0) k 0 ≡ get_or ys k 0
get_or_past_zeros [] n k = get_or_zeros n k
get_or_past_zeros (y ∷ ys) n zero = refl
get_or_past_zeros (y ∷ ys) n (suc k) = get_or_past_zeros ys n k

-- what the scan of a whole row has at a rank is the row's count of that rank
pub rank_is : (n k : ℕ) (hs xs : List ℕ) → k < n → hs ≡ fold (kept n) (replicate n 0) xs → get_or hs k 0 ≡ get_or (falling xs) k 0
rank_is n k hs xs h e =
    let zeros : List ℕ = replicate n 0 in
    let all : take n zeros ≡ zeros = take_all n zeros (omega (arith, length-replicate {A = ℕ} n 0)) in
    let w : hs ≡ take n (falling xs ++ zeros) =
    e ∙ ap (λ ys. fold (kept n) ys xs) (sym all) ∙ take_folded n xs zeros ∙ ap (take n) (folded_past xs [] n) in
    rw (w, get_or-take n (falling xs ++ zeros) k 0 h) (get_or_past_zeros (falling xs) n k)

-- the first i places of a day are gone through, with the ranks hs and m sound places: what is left, gone through from
-- here, gives what the whole day gives
abbrev pub Scanned : List Interval → ℕ → List ℕ → ℕ → Type 0
Scanned day i hs m =
    (length hs ≡ 6) × (m ≤ i)
    × (fold (kept 6) hs (sound_counts (drop i day)) ≡ fold (kept 6) (replicate 6 0) (sound_counts day))
    × (m + length (sound_counts (drop i day)) ≡ length (sound_counts day))

pub scanned_sound : (day : List Interval) (i : ℕ) (hs ks : List ℕ) (m n : ℕ) → i < length day → true ≡ sound (get_or day i no_interval).condition → ks ≡ take (length hs) (entered hs (get_or day i no_interval).pulses) → length ks ≡ length hs → n ≡ m + 1 → Scanned day i hs m → Scanned day (i + 1) ks n
scanned_sound day i hs ks m n h s e l p inv = grind (arith, common_steps)

pub scanned_unsound : (day : List Interval) (i : ℕ) (hs ks : List ℕ) (m n : ℕ) → i < length day → false ≡ sound (get_or day i no_interval).condition → ks ≡ hs → n ≡ m → Scanned day i hs m → Scanned day (i + 1) ks n
scanned_unsound day i hs ks m n h s e p inv = grind (arith, common_steps)

pub scanned_all : (day : List Interval) (i : ℕ) (hs : List ℕ) (m : ℕ) → length day ≤ i → Scanned day i hs m → peak m (get_or hs 0 0) (get_or hs 5 0) ≡ spike_of day
scanned_all day i hs m h inv =
    let none : sound_counts (drop i day) ≡ [] = ap sound_counts (drop_all i day h) in
    let f : hs ≡ fold (kept 6) (replicate 6 0) (sound_counts day) = rw none at inv.2 in
    let k : m ≡ length (sound_counts day) = omega (arith, inv.3, ap length none) in
    rw (k, rank_is 6 0 hs (sound_counts day) (lit< tt) f, rank_is 6 5 hs (sound_counts day) (lit< tt) f)
