-- The order of ℤ. An inequality is proved by its witness, `≤ℤ-by c h e` with `h : pos 0 ≤ℤ c` and `e : b ≡ a +ℤ c`, or by `ineq` (Inequality);
-- between natural numbers by `omega (arith, pos_le, pos_mono)`. As `◌≤ℤ◌` binds tighter than `+ℤ`, write `(a +ℤ c) ≤ℤ (b +ℤ d)`.
use mathlib.Core.Path.{◌≡◌, refl, sym, ap, ◌∙◌, subst, subst₂}
use mathlib.Core.Logic.{◌⊎◌, inl, inr}
use mathlib.Core.Bool.{Bool, true, false, not}
use Prim.Native.Nat.{ℕ, zero, suc, ◌+◌, ◌*◌, ◌≤◌, ◌<◌, zero-le, suc-le-suc}
use native.Mathlib.Nat as N
use lib.IntN.{ℤ, pos, negsuc, neg_ℤ, suc_ℤ, ◌+ℤ◌, ◌-ℤ◌, ◌*ℤ◌, +ℤ_assoc, +ℤ_idr, +ℤ_invl, +ℤ-suc_ℤ, +ℤ_one, neg_ℤ-+ℤ}
use lib.Signed.{◌≤ℤ◌, ◌<ℤ◌, le_z, lt_z, le_z_yes, lt_z_yes, lt_z_no, ≤ℤ_refl, <ℤ-≤ℤ_trans}
use lib.Dec.{T, leb→le, le→leb, ltb→lt, lt→ltb}
use Rattle.whole.proofs.Ring.{neg_add_cancel}
use Rattle.whole.proofs.Solve.{neg, ◌⊕◌, ◌⊖◌, ◌⊗◌, ◌≗◌, ring}

-- ---- the order by cases

trans_cases : (a b c : ℤ) → T (le_z a b) → T (le_z b c) → T (le_z a c)
trans_cases (pos a) (pos b) (pos c) h k = le→leb a c (N.le_trans (leb→le a b h) (leb→le b c k))
trans_cases (pos a) (pos b) (negsuc c) h k = k
trans_cases (pos a) (negsuc b) c h k = absurd h
trans_cases (negsuc a) (pos b) (pos c) h k = tt
trans_cases (negsuc a) (pos b) (negsuc c) h k = absurd k
trans_cases (negsuc a) (negsuc b) (pos c) h k = tt
trans_cases (negsuc a) (negsuc b) (negsuc c) h k = le→leb c a (N.le_trans (leb→le c b k) (leb→le b a h))

pub ≤ℤ-trans : {a b c : ℤ} → a ≤ℤ b → b ≤ℤ c → a ≤ℤ c
≤ℤ-trans {a} {b} {c} h k = le_z_yes (trans_cases a b c h.le k.le)

antisymm_cases : (a b : ℤ) → T (le_z a b) → T (le_z b a) → a ≡ b
antisymm_cases (pos a) (pos b) h k = ap pos (N.le_antisymm (leb→le a b h) (leb→le b a k))
antisymm_cases (pos a) (negsuc b) h k = absurd h
antisymm_cases (negsuc a) (pos b) h k = absurd k
antisymm_cases (negsuc a) (negsuc b) h k = ap negsuc (N.le_antisymm (leb→le a b k) (leb→le b a h))

pub ≤ℤ-antisymm : {a b : ℤ} → a ≤ℤ b → b ≤ℤ a → a ≡ b
≤ℤ-antisymm {a} {b} h k = antisymm_cases a b h.le k.le

-- one way or strictly the other
pub ≤ℤ-or-> : (a b : ℤ) → (a ≤ℤ b) ⊎ (b <ℤ a)
≤ℤ-or-> a b = go (lt_z b a) (λ t. lt_z_yes t) (λ t. lt_z_no t)
  where
    go : (c : Bool) → (T c → b <ℤ a) → (T (not c) → a ≤ℤ b) → (a ≤ℤ b) ⊎ (b <ℤ a)
    go true f g = inr (f tt)
    go false f g = inl (g tt)

lt_le_cases : (a b : ℤ) → T (lt_z a b) → T (le_z a b)
lt_le_cases (pos a) (pos b) h = le→leb a b (N.le_of_lt (ltb→lt a b h))
lt_le_cases (pos a) (negsuc b) h = h
lt_le_cases (negsuc a) (pos b) h = tt
lt_le_cases (negsuc a) (negsuc b) h = le→leb b a (N.le_of_lt (ltb→lt b a h))

pub <ℤ-le : {a b : ℤ} → a <ℤ b → a ≤ℤ b
<ℤ-le {a} {b} h = le_z_yes (lt_le_cases a b h.lt)

pub ≤ℤ-of-eq : {a b : ℤ} → a ≡ b → a ≤ℤ b
≤ℤ-of-eq {a} e = subst (λ (x : ℤ). a ≤ℤ x) e (≤ℤ_refl a)

-- ---- the order by its witness

le_sucℤ : (a : ℤ) → a ≤ℤ suc_ℤ a
le_sucℤ (pos n) = le_z_yes (le→leb n (suc n) (N.le-suc n))
le_sucℤ (negsuc zero) = le_z_yes tt
le_sucℤ (negsuc (suc n)) = le_z_yes (le→leb n (suc n) (N.le-suc n))

pub pos_nonneg : (n : ℕ) → pos 0 ≤ℤ pos n
pos_nonneg n = le_z_yes (le→leb 0 n zero-le)

pub le_add_pos : (a : ℤ) (n : ℕ) → a ≤ℤ (a +ℤ pos n)
le_add_pos a zero = ≤ℤ-of-eq (sym (+ℤ_idr a))
le_add_pos a (suc n) = ≤ℤ-trans (le_add_pos a n) (subst (λ (x : ℤ). (a +ℤ pos n) ≤ℤ x) (sym (+ℤ-suc_ℤ a (pos n))) (le_sucℤ (a +ℤ pos n)))

-- what is not negative is a natural number
pub nat_of : (a : ℤ) → pos 0 ≤ℤ a → (n : ℕ) × (a ≡ pos n)
nat_of (pos n) h = (n, refl)
nat_of (negsuc n) h = absurd h.le

-- b is a and something that is not negative
pub ≤ℤ-by : {a b : ℤ} (c : ℤ) → pos 0 ≤ℤ c → b ≡ a +ℤ c → a ≤ℤ b
≤ℤ-by {a} {b} c h e =
    let k : (n : ℕ) × (c ≡ pos n) = nat_of c h in
    subst (λ (x : ℤ). a ≤ℤ x) (sym (e ∙ ap (λ (x : ℤ). a +ℤ x) k.1)) (le_add_pos a k.0)

witness_cases : (a b : ℤ) → T (le_z a b) → (n : ℕ) × (b ≡ a +ℤ pos n)
witness_cases (pos a) (pos b) h = let k : (n : ℕ) × (a + n ≡ b) = N.le_dest (leb→le a b h) in (k.0, ap pos (sym k.1))
witness_cases (pos a) (negsuc b) h = absurd h
witness_cases (negsuc a) (pos b) h = (suc a + b, sym (neg_add_cancel (pos (suc a)) (pos b)))
witness_cases (negsuc a) (negsuc b) h =
    let k : (n : ℕ) × (b + n ≡ a) = N.le_dest (leb→le b a h) in
    (k.0, step k.0 k.1)
  where
    step : (n : ℕ) → b + n ≡ a → negsuc b ≡ negsuc a +ℤ pos n
    step n e =
        sym (ap (λ (x : ℕ). negsuc x +ℤ pos n) (sym e)
        ∙ ap (λ (x : ℕ). neg_ℤ (pos x) +ℤ pos n) (sym (N.suc-add b n))
        ∙ ap (λ (x : ℤ). x +ℤ pos n) (neg_ℤ-+ℤ (pos (suc b)) (pos n))
        ∙ +ℤ_assoc (negsuc b) (neg_ℤ (pos n)) (pos n)
        ∙ ap (λ (x : ℤ). negsuc b +ℤ x) (+ℤ_invl (pos n)) ∙ +ℤ_idr (negsuc b))

-- and the other way round
pub ≤ℤ-witness : {a b : ℤ} → a ≤ℤ b → (n : ℕ) × (b ≡ a +ℤ pos n)
≤ℤ-witness {a} {b} h = witness_cases a b h.le

-- a ≤ b is 0 ≤ b - a
pub ≤ℤ-sub : {a b : ℤ} → a ≤ℤ b → pos 0 ≤ℤ (b -ℤ a)
≤ℤ-sub {a} {b} h =
    let k : (n : ℕ) × (b ≡ a +ℤ pos n) = ≤ℤ-witness h in
    subst (λ (x : ℤ). pos 0 ≤ℤ x) (sym (ap (λ (x : ℤ). x -ℤ a) k.1 ∙ ring 2 (λ a n. a ⊕ n ⊖ a ≗ n) tt a (pos k.0))) (pos_nonneg k.0)

pub ≤ℤ-of-sub : {a b : ℤ} → pos 0 ≤ℤ (b -ℤ a) → a ≤ℤ b
≤ℤ-of-sub {a} {b} h = ≤ℤ-by (b -ℤ a) h (ring 2 (λ a b. b ≗ a ⊕ (b ⊖ a)) tt a b)

-- what is not negative
pub +ℤ-nonneg : {a b : ℤ} → pos 0 ≤ℤ a → pos 0 ≤ℤ b → pos 0 ≤ℤ (a +ℤ b)
+ℤ-nonneg {a} {b} h k =
    let x = nat_of a h in let y = nat_of b k in
    subst₂ (λ (p q : ℤ). pos 0 ≤ℤ (p +ℤ q)) (sym x.1) (sym y.1) (pos_nonneg (x.0 + y.0))

pub *ℤ-nonneg : {a b : ℤ} → pos 0 ≤ℤ a → pos 0 ≤ℤ b → pos 0 ≤ℤ (a *ℤ b)
*ℤ-nonneg {a} {b} h k =
    let x = nat_of a h in let y = nat_of b k in
    subst₂ (λ (p q : ℤ). pos 0 ≤ℤ (p *ℤ q)) (sym x.1) (sym y.1) (pos_nonneg (x.0 * y.0))

pub sq_nonneg : (a : ℤ) → pos 0 ≤ℤ (a *ℤ a)
sq_nonneg (pos n) = pos_nonneg (n * n)
sq_nonneg (negsuc n) = pos_nonneg (suc n * suc n)

-- ---- sums and products

pub +ℤ-mono : {a b c d : ℤ} → a ≤ℤ b → c ≤ℤ d → (a +ℤ c) ≤ℤ (b +ℤ d)
+ℤ-mono {a} {b} {c} {d} h k =
    ≤ℤ-by ((b -ℤ a) +ℤ (d -ℤ c)) (+ℤ-nonneg (≤ℤ-sub h) (≤ℤ-sub k))
    (ring 4 (λ a b c d. b ⊕ d ≗ a ⊕ c ⊕ ((b ⊖ a) ⊕ (d ⊖ c))) tt a b c d)

pub *ℤ-mono-l : {k a b : ℤ} → pos 0 ≤ℤ k → a ≤ℤ b → (k *ℤ a) ≤ℤ (k *ℤ b)
*ℤ-mono-l {k} {a} {b} h e =
    ≤ℤ-by (k *ℤ (b -ℤ a)) (*ℤ-nonneg h (≤ℤ-sub e)) (ring 3 (λ k a b. k ⊗ b ≗ k ⊗ a ⊕ k ⊗ (b ⊖ a)) tt k a b)

pub *ℤ-mono-r : {k a b : ℤ} → pos 0 ≤ℤ k → a ≤ℤ b → (a *ℤ k) ≤ℤ (b *ℤ k)
*ℤ-mono-r {k} {a} {b} h e =
    ≤ℤ-by (k *ℤ (b -ℤ a)) (*ℤ-nonneg h (≤ℤ-sub e)) (ring 3 (λ k a b. b ⊗ k ≗ a ⊗ k ⊕ k ⊗ (b ⊖ a)) tt k a b)

pub negℤ-mono : {a b : ℤ} → a ≤ℤ b → neg_ℤ b ≤ℤ neg_ℤ a
negℤ-mono {a} {b} h = ≤ℤ-by (b -ℤ a) (≤ℤ-sub h) (ring 2 (λ a b. neg a ≗ neg b ⊕ (b ⊖ a)) tt a b)

-- a positive factor is taken away
cancel_cases : (k a : ℤ) → T (lt_z (pos 0) k) → T (le_z (pos 0) (k *ℤ a)) → T (le_z (pos 0) a)
cancel_cases k (pos n) h t = le→leb 0 n zero-le
cancel_cases (pos zero) (negsuc n) h t = absurd h
cancel_cases (pos (suc m)) (negsuc n) h t = go (suc m * suc n) (N.mul-pos {m = suc m} {n = suc n} (suc-le-suc zero-le) (suc-le-suc zero-le)) t
  where
    go : (x : ℕ) → 0 < x → T (le_z (pos 0) (neg_ℤ (pos x))) → ⊥
    go zero p q = N.not-suc-le-zero p
    go (suc x) p q = q
cancel_cases (negsuc m) (negsuc n) h t = absurd h

pub nonneg_of_mul : {k a : ℤ} → pos 0 <ℤ k → pos 0 ≤ℤ (k *ℤ a) → pos 0 ≤ℤ a
nonneg_of_mul {k} {a} h e = le_z_yes (cancel_cases k a h.lt e.le)

pub ≤ℤ-of-mul : {k a b : ℤ} → pos 0 <ℤ k → (k *ℤ a) ≤ℤ (k *ℤ b) → a ≤ℤ b
≤ℤ-of-mul {k} {a} {b} h e =
    ≤ℤ-of-sub (nonneg_of_mul h (subst (λ (x : ℤ). pos 0 ≤ℤ x) (ring 3 (λ k a b. k ⊗ b ⊖ k ⊗ a ≗ k ⊗ (b ⊖ a)) tt k a b) (≤ℤ-sub e)))

pub *ℤ-pos : {a b : ℤ} → pos 0 <ℤ a → pos 0 <ℤ b → pos 0 <ℤ (a *ℤ b)
*ℤ-pos {a} {b} h k = lt_z_yes (cases a b h.lt k.lt)
  where
    cases : (a b : ℤ) → T (lt_z (pos 0) a) → T (lt_z (pos 0) b) → T (lt_z (pos 0) (a *ℤ b))
    cases (pos a) (pos b) h k = lt→ltb 0 (a * b) (N.mul-pos (ltb→lt 0 a h) (ltb→lt 0 b k))
    cases (pos a) (negsuc b) h k = absurd k
    cases (negsuc a) b h k = absurd h

-- ---- from and to ℕ

pub pos_mono : {m n : ℕ} → m ≤ n → pos m ≤ℤ pos n
pos_mono {m} {n} h = le_z_yes (le→leb m n h)

pub pos_le : {m n : ℕ} → pos m ≤ℤ pos n → m ≤ n
pos_le {m} {n} h = leb→le m n h.le

pub pos_mono_< : {m n : ℕ} → m < n → pos m <ℤ pos n
pos_mono_< {m} {n} h = lt_z_yes (lt→ltb m n h)

pub pos_lt : {m n : ℕ} → pos m <ℤ pos n → m < n
pos_lt {m} {n} h = ltb→lt m n h.lt

-- ---- the strict order

lt_suc_cases : (a b : ℤ) → T (lt_z a b) → T (le_z (suc_ℤ a) b)
lt_suc_cases (pos a) (pos b) h = h
lt_suc_cases (pos a) (negsuc b) h = h
lt_suc_cases (negsuc zero) (pos b) h = le→leb 0 b zero-le
lt_suc_cases (negsuc (suc a)) (pos b) h = tt
lt_suc_cases (negsuc zero) (negsuc b) h = absurd (N.not-suc-le-zero (ltb→lt b 0 h))
lt_suc_cases (negsuc (suc a)) (negsuc b) h = le→leb b a (N.le_of_suc-le-suc (ltb→lt b (suc a) h))

-- a < b is a + 1 ≤ b
pub <ℤ-next : {a b : ℤ} → a <ℤ b → (a +ℤ pos 1) ≤ℤ b
<ℤ-next {a} {b} h = subst (λ (x : ℤ). x ≤ℤ b) (sym (+ℤ_one a)) (le_z_yes (lt_suc_cases a b h.lt))

sucℤ-above : (a : ℤ) → a <ℤ suc_ℤ a
sucℤ-above (pos n) = lt_z_yes (lt→ltb n (suc n) (N.le_refl (suc n)))
sucℤ-above (negsuc zero) = lt_z_yes tt
sucℤ-above (negsuc (suc n)) = lt_z_yes (lt→ltb n (suc n) (N.le_refl (suc n)))

pub next-<ℤ : {a b : ℤ} → (a +ℤ pos 1) ≤ℤ b → a <ℤ b
next-<ℤ {a} {b} h = <ℤ-≤ℤ_trans (sucℤ-above a) (subst (λ (x : ℤ). x ≤ℤ b) (+ℤ_one a) h)
