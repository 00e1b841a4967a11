-- Ring laws of ℤ that `lib.IntN` lacks, for single steps; an equation of several steps is one call of `ring` (Solve). Sums are rearranged by
-- `+ℤ-swap4 a b c d : (a +ℤ b) +ℤ (c +ℤ d) ≡ (a +ℤ c) +ℤ (b +ℤ d)`, and so on.
use mathlib.Core.Path.{◌≡◌, sym, ap, ap₂, ◌∙◌}
use Prim.Native.Nat.{ℕ, zero, suc}
use lib.IntN.{ℤ, pos, negsuc, neg_ℤ, ◌+ℤ◌, ◌-ℤ◌, ◌*ℤ◌, *ℤ_comm, +ℤ_comm, +ℤ_assoc, +ℤ_idl, +ℤ_idr, +ℤ_invr, +ℤ_invl, zero-*ℤ, suc_ℤ-*ℤ, suc_ℤ, pred_ℤ, suc_ℤ-+ℤ, pred_ℤ-*ℤ, pred_ℤ-+ℤ, neg_ℤ-neg_ℤ}
use native.Mathlib.Nat as N

-- induction by successor and predecessor
pub ind {ℓ} : (P : ℤ → Type ℓ) → P (pos zero) → ((m : ℤ) → P m → P (suc_ℤ m)) → ((m : ℤ) → P m → P (pred_ℤ m)) → (a : ℤ) → P a
ind P z s p (pos zero) = z
ind P z s p (pos (suc n)) = s (pos n) (ind P z s p (pos n))
ind P z s p (negsuc zero) = p (pos zero) z
ind P z s p (negsuc (suc n)) = p (negsuc n) (ind P z s p (negsuc n))

-- 1 on either side
pub pos1-*ℤ : (a : ℤ) → pos 1 *ℤ a ≡ a
pos1-*ℤ (pos n) = ap pos (N.one-mul n)
pos1-*ℤ (negsuc n) = ap (λ (k : ℕ). neg_ℤ (pos k)) (N.one-mul (suc n))

pub *ℤ-pos1 : (a : ℤ) → a *ℤ pos 1 ≡ a
*ℤ-pos1 a = *ℤ_comm a (pos 1) ∙ pos1-*ℤ a

-- sums of three and four
pub +ℤ-rcomm : (a b c : ℤ) → (a +ℤ b) +ℤ c ≡ (a +ℤ c) +ℤ b
+ℤ-rcomm a b c = +ℤ_assoc a b c ∙ ap (λ (x : ℤ). a +ℤ x) (+ℤ_comm b c) ∙ sym (+ℤ_assoc a c b)

pub +ℤ-lcomm : (a b c : ℤ) → a +ℤ (b +ℤ c) ≡ b +ℤ (a +ℤ c)
+ℤ-lcomm a b c = sym (+ℤ_assoc a b c) ∙ ap (λ (x : ℤ). x +ℤ c) (+ℤ_comm a b) ∙ +ℤ_assoc b a c

pub +ℤ-swap4 : (a b c d : ℤ) → (a +ℤ b) +ℤ (c +ℤ d) ≡ (a +ℤ c) +ℤ (b +ℤ d)
+ℤ-swap4 a b c d = +ℤ_assoc a b (c +ℤ d) ∙ ap (λ (x : ℤ). a +ℤ x) (+ℤ-lcomm b c d) ∙ sym (+ℤ_assoc a c (b +ℤ d))

-- cancellation
pub neg_add_cancel : (a b : ℤ) → neg_ℤ a +ℤ (a +ℤ b) ≡ b
neg_add_cancel a b = sym (+ℤ_assoc (neg_ℤ a) a b) ∙ ap (λ (x : ℤ). x +ℤ b) (+ℤ_invl a) ∙ +ℤ_idl b

-- what comes to 0 with b is -b
pub neg_unique : (a b : ℤ) → a +ℤ b ≡ pos zero → a ≡ neg_ℤ b
neg_unique a b h =
    sym (+ℤ_idr a) ∙ ap (λ (x : ℤ). a +ℤ x) (sym (+ℤ_invr b)) ∙ sym (+ℤ_assoc a b (neg_ℤ b)) ∙ ap (λ (x : ℤ). x +ℤ neg_ℤ b) h ∙ +ℤ_idl (neg_ℤ b)

-- the product distributes over the sum
pub +ℤ-*ℤ : (a b k : ℤ) → (a +ℤ b) *ℤ k ≡ a *ℤ k +ℤ b *ℤ k
+ℤ-*ℤ a b k = ind (λ (x : ℤ). (x +ℤ b) *ℤ k ≡ x *ℤ k +ℤ b *ℤ k) base up down a
  where
    base : (pos zero +ℤ b) *ℤ k ≡ pos zero *ℤ k +ℤ b *ℤ k
    base = ap (λ (x : ℤ). x *ℤ k) (+ℤ_idl b) ∙ sym (+ℤ_idl (b *ℤ k)) ∙ ap (λ (x : ℤ). x +ℤ b *ℤ k) (sym (zero-*ℤ k))

    up : (m : ℤ) → (m +ℤ b) *ℤ k ≡ m *ℤ k +ℤ b *ℤ k → (suc_ℤ m +ℤ b) *ℤ k ≡ suc_ℤ m *ℤ k +ℤ b *ℤ k
    up m h =
        ap (λ (x : ℤ). x *ℤ k) (suc_ℤ-+ℤ m b) ∙ suc_ℤ-*ℤ (m +ℤ b) k ∙ ap (λ (x : ℤ). x +ℤ k) h ∙ +ℤ-rcomm (m *ℤ k) (b *ℤ k) k
        ∙ ap (λ (x : ℤ). x +ℤ b *ℤ k) (sym (suc_ℤ-*ℤ m k))

    down : (m : ℤ) → (m +ℤ b) *ℤ k ≡ m *ℤ k +ℤ b *ℤ k → (pred_ℤ m +ℤ b) *ℤ k ≡ pred_ℤ m *ℤ k +ℤ b *ℤ k
    down m h =
        ap (λ (x : ℤ). x *ℤ k) (pred_ℤ-+ℤ m b) ∙ pred_ℤ-*ℤ (m +ℤ b) k ∙ ap (λ (x : ℤ). x +ℤ neg_ℤ k) h ∙ +ℤ-rcomm (m *ℤ k) (b *ℤ k) (neg_ℤ k)
        ∙ ap (λ (x : ℤ). x +ℤ b *ℤ k) (sym (pred_ℤ-*ℤ m k))

pub *ℤ-+ℤ : (k a b : ℤ) → k *ℤ (a +ℤ b) ≡ k *ℤ a +ℤ k *ℤ b
*ℤ-+ℤ k a b = *ℤ_comm k (a +ℤ b) ∙ +ℤ-*ℤ a b k ∙ ap₂ ◌+ℤ◌ (*ℤ_comm a k) (*ℤ_comm b k)

-- negation moves out of a product
pub negℤ-*ℤ : (a b : ℤ) → neg_ℤ a *ℤ b ≡ neg_ℤ (a *ℤ b)
negℤ-*ℤ a b = neg_unique (neg_ℤ a *ℤ b) (a *ℤ b) (sym (+ℤ-*ℤ (neg_ℤ a) a b) ∙ ap (λ (x : ℤ). x *ℤ b) (+ℤ_invl a) ∙ zero-*ℤ b)

-- -1 times
pub neg_one_*ℤ : (a : ℤ) → negsuc 0 *ℤ a ≡ neg_ℤ a
neg_one_*ℤ a = negℤ-*ℤ (pos 1) a ∙ ap neg_ℤ (pos1-*ℤ a)

pub -ℤ-*ℤ : (a b k : ℤ) → (a -ℤ b) *ℤ k ≡ a *ℤ k -ℤ b *ℤ k
-ℤ-*ℤ a b k = +ℤ-*ℤ a (neg_ℤ b) k ∙ ap (λ (x : ℤ). a *ℤ k +ℤ x) (negℤ-*ℤ b k)

-- the product is associative
pub *ℤ-assoc : (a b c : ℤ) → (a *ℤ b) *ℤ c ≡ a *ℤ (b *ℤ c)
*ℤ-assoc a b c = ind (λ (x : ℤ). (x *ℤ b) *ℤ c ≡ x *ℤ (b *ℤ c)) base up down a
  where
    base : (pos zero *ℤ b) *ℤ c ≡ pos zero *ℤ (b *ℤ c)
    base = ap (λ (x : ℤ). x *ℤ c) (zero-*ℤ b) ∙ zero-*ℤ c ∙ sym (zero-*ℤ (b *ℤ c))

    up : (m : ℤ) → (m *ℤ b) *ℤ c ≡ m *ℤ (b *ℤ c) → (suc_ℤ m *ℤ b) *ℤ c ≡ suc_ℤ m *ℤ (b *ℤ c)
    up m h = ap (λ (x : ℤ). x *ℤ c) (suc_ℤ-*ℤ m b) ∙ +ℤ-*ℤ (m *ℤ b) b c ∙ ap (λ (x : ℤ). x +ℤ b *ℤ c) h ∙ sym (suc_ℤ-*ℤ m (b *ℤ c))

    down : (m : ℤ) → (m *ℤ b) *ℤ c ≡ m *ℤ (b *ℤ c) → (pred_ℤ m *ℤ b) *ℤ c ≡ pred_ℤ m *ℤ (b *ℤ c)
    down m h =
        ap (λ (x : ℤ). x *ℤ c) (pred_ℤ-*ℤ m b) ∙ -ℤ-*ℤ (m *ℤ b) b c ∙ ap (λ (x : ℤ). x -ℤ b *ℤ c) h ∙ sym (pred_ℤ-*ℤ m (b *ℤ c))

pub *ℤ-lcomm : (a b c : ℤ) → a *ℤ (b *ℤ c) ≡ b *ℤ (a *ℤ c)
*ℤ-lcomm a b c = sym (*ℤ-assoc a b c) ∙ ap (λ (x : ℤ). x *ℤ c) (*ℤ_comm a b) ∙ *ℤ-assoc b a c

pub *ℤ-swap4 : (a b c d : ℤ) → (a *ℤ b) *ℤ (c *ℤ d) ≡ (a *ℤ c) *ℤ (b *ℤ d)
*ℤ-swap4 a b c d = *ℤ-assoc a b (c *ℤ d) ∙ ap (λ (x : ℤ). a *ℤ x) (*ℤ-lcomm b c d) ∙ sym (*ℤ-assoc a c (b *ℤ d))

-- what differs by 0 is equal
pub eq_of_sub : (a b : ℤ) → a -ℤ b ≡ pos zero → a ≡ b
eq_of_sub a b h = neg_unique a (neg_ℤ b) h ∙ neg_ℤ-neg_ℤ b
