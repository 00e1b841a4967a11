-- The walk, move by move, over bytes or over words: what is left ends as the whole does. `Along` is the loop's invariant: start it with
-- `along_start`, go on with `along_go`, end with `along_stop` or `along_refuse`.
use Prim.Native.Nat.{ℕ, ◌+◌, ◌-◌, ◌*◌, ◌^◌, ◌≤◌, ◌<◌}
use mathlib.Core.Path.{◌≡◌, refl, sym, ap, ◌∙◌}
use mathlib.Core.Bool.{Bool, true, false}
use mathlib.Core.List.{List}
use native.Mathlib.Numerals.{add-one}
use native.Mathlib.Omega.{arith}
use borrow.Author.Tests.{lt-ltb, ltb-true, ltb-false}
use lib.Dec.{ltb}
use lib.IntN.{ℤ, pos, negsuc}
use lib.ListN.{length, get_or, drop, set, length-set, drop_of_length-le}
use lib.Seq.{sets, drop-cons}
use mir.Syntax.{w64}
use mir.Val.{SFits}
use Rattle.numbers.specs.declared.plain.Number.{Number}
use Rattle.std.specs.Prelude.{Option, Some, None, Ok, Err, if◌then◌else◌}
use Rattle.refusals.specs.declared.Refusal.{Refusal}
use Rattle.refusals.specs.declared.Refusal.TheVariants.{Unreadable, NotAllowed}
use Rattle.fields.specs.declared.Barred.TheVariants.{Unallowed, Other}
use Rattle.numbers.specs.Plain.{value_of, number_at, bytes_of}
use Rattle.numbers.specs.Zigzag.{stored_of}
use Rattle.numbers.proofs.Bytes.{size_most, size_some}
use Rattle.numbers.proofs.Clash.{clash}
use Rattle.numbers.proofs.Reading.{bound}
use Rattle.fields.specs.declared.Field.{Field}
use Rattle.fields.specs.Table.{Step, signed_at, end_at, step_of}
use Rattle.fields.proofs.Rows.{signed_large}
use Rattle.packs.specs.declared.walking.Taken.{Taken}
use Rattle.packs.specs.Reading.{Outcome, Move, goes, Ran, settled, numbered, move_of, on_move, run_from}
use Rattle.packs.specs.Writing.{Put, Fits, Bars, plain_of, raw_of, on_step, on_raw, put_of}
use Rattle.packs.specs.Walking.{finds, in_bytes, in_groups, plainly, in_word, Small, on_found, walk_move, on_number, stops, numbers_from, walk_of}
use Rattle.packs.proofs.Forward.{move_next, run_move}

-- ---- the moves over bytes are the reader's

bytes_move : (s : List ℕ) (ws : List ℤ) (k at : ℕ) (f : Field) → walk_move false s ws k at f ≡ move_of s at f
bytes_move s ws k at f = ap (λ (m : Move). if end_at f then (if ltb at (length s) then Err (Unreadable at) else Ok None) else m) (go (number_at s at))
  where
    go : (n : Option Number) → on_found false f at (in_bytes at n) ≡ numbered f at n
    go (Some n) = refl
    go None = refl

-- ---- the moves over words are the writer's

abbrev moved : (at : ℕ) → Put → Move
moved at (Fits g raw) = goes g (pos raw) (at + length (bytes_of raw))
moved at (Bars r) = Err r

by_step : (at raw : ℕ) (q : Step) → settled (pos raw) at (at + length (bytes_of raw)) q ≡ moved at (on_step at raw q)
by_step at raw (Ok g) = refl
by_step at raw (Err Unallowed) = refl
by_step at raw (Err (Other r)) = refl

module _ (at : ℕ) (f : Field) where
  by_groups : (raw : ℕ) → signed_at f ≡ true → (t : Bool) → ltb raw (2 ^ 63) ≡ t
      → on_found true f at (if t then finds raw (at + length (bytes_of raw)) else Err (NotAllowed at)) ≡ moved at (on_step at raw (step_of f raw))
  by_groups raw s true l = by_step at raw (step_of f raw)
  by_groups raw s false l = rw (signed_large f raw s (ltb-false raw (2 ^ 63) l))

  by_plain : (x : ℤ) → on_found true f at (plainly at x) ≡ moved at (on_raw f at (plain_of x))
  by_plain (pos n) = by_step at n (step_of f n)
  by_plain (negsuc n) = refl

  by_word : (x : ℤ) → on_found true f at (in_word at f x) ≡ moved at (put_of f at x)
  by_word x = go (signed_at f) refl
    where
      go : (t : Bool) → signed_at f ≡ t
          → on_found true f at (if t then in_groups at (Some (stored_of x)) else plainly at x) ≡ moved at (on_raw f at (if t then Some (stored_of x) else plain_of x))
      go true e = by_groups (stored_of x) e (ltb (stored_of x) (2 ^ 63)) refl
      go false e = by_plain x

module _ (s : List ℕ) (ws : List ℤ) (k at : ℕ) (f : Field) where
  word_move : k < length ws → end_at f ≡ false → walk_move true s ws k at f ≡ moved at (put_of f at (get_or ws k (pos 0)))
  word_move h e = rw (e, lt-ltb k (length ws) h) (by_word at f (get_or ws k (pos 0)))

  -- what is left of the words, after k of them
  abbrev rest : ℕ → Field → ℕ → Ran
  rest k f at = numbers_from (drop k ws) k f at

  put_move : (p : Put) → on_number p (λ g raw. rest (k + 1) g (at + length (bytes_of raw))) ≡ on_move (moved at p) k (λ g next. rest (k + 1) g next)
  put_move (Fits g raw) = refl
  put_move (Bars r) = refl

  numbers_word : k < length ws → end_at f ≡ false → rest k f at ≡ on_number (put_of f at (get_or ws k (pos 0))) (λ g raw. rest (k + 1) g (at + length (bytes_of raw)))
  unfolding numbers_from
  numbers_word h e = rw (drop-cons ws k (pos 0) h, e, add-one k)

  numbers_on : k < length ws → end_at f ≡ true → rest k f at ≡ stops (Err (Unreadable at))
  unfolding numbers_from
  numbers_on h e = rw (drop-cons ws k (pos 0) h, e)

  numbers_end : length ws ≤ k → end_at f ≡ true → rest k f at ≡ stops (Ok k)
  unfolding numbers_from
  numbers_end h e = rw (drop_of_length-le ws {i = k} h, e)

  numbers_short : length ws ≤ k → end_at f ≡ false → rest k f at ≡ stops (Err (Unreadable at))
  unfolding numbers_from
  numbers_short h e = rw (drop_of_length-le ws {i = k} h, e)

  rest_move : rest k f at ≡ on_move (walk_move true s ws k at f) k (λ g next. rest (k + 1) g next)
  rest_move = go (end_at f) refl (ltb k (length ws)) refl
    where
      go : (t : Bool) → end_at f ≡ t → (u : Bool) → ltb k (length ws) ≡ u → rest k f at ≡ on_move (walk_move true s ws k at f) k (λ g next. rest (k + 1) g next)
      go true e true l = numbers_on (ltb-true k (length ws) l) e ∙ rw (e, l)
      go true e false l = numbers_end (ltb-false k (length ws) l) e ∙ rw (e, l)
      go false e true l =
          let h = ltb-true k (length ws) l in
          numbers_word h e ∙ put_move (put_of f at (get_or ws k (pos 0))) ∙ ap (λ (m : Move). on_move m k (λ g next. rest (k + 1) g next)) (sym (word_move h e))
      go false e false l = numbers_short (ltb-false k (length ws) l) e ∙ rw (e, l)

  -- a word that goes on stands in the list, and its number is ten bytes at most
  word_next : {t : Taken} → walk_move true s ws k at f ≡ Ok (Some t) → (k < length ws) × (t.next ≤ at + 10) × (at < t.next)
  word_next {t} m = go (end_at f) refl (ltb k (length ws)) refl
    where
      near : (p : Put) → moved at p ≡ Ok (Some t) → (t.next ≤ at + 10) × (at < t.next)
      near (Fits h raw) e = let q : at + length (bytes_of raw) ≡ t.next = cc in (omega (arith, size_most raw), omega (arith, size_some raw))
      near (Bars r) e = clash (cc)

      go : (b : Bool) → end_at f ≡ b → (u : Bool) → ltb k (length ws) ≡ u → (k < length ws) × (t.next ≤ at + 10) × (at < t.next)
      go true e true l = let q : Err (Unreadable at) ≡ Ok (Some t) = rw (e, l) at m in clash (cc)
      go true e false l = let q : Ok None ≡ Ok (Some t) = rw (e, l) at m in clash (cc)
      go false e true l =
          let h = ltb-true k (length ws) l in
          let p = near (put_of f at (get_or ws k (pos 0))) (sym (word_move h e) ∙ m) in
          (h, p.0, p.1)
      go false e false l = let q : Err (Unreadable at) ≡ Ok (Some t) = rw (e, l) at m in clash (cc)

-- ---- a number found is below 2^63

pub small_groups : (at : ℕ) (r : Option ℕ) → Small (in_groups at r)
small_groups at (Some raw) = go (ltb raw (2 ^ 63)) refl
  where
    go : (t : Bool) → ltb raw (2 ^ 63) ≡ t → Small (if t then finds raw (at + length (bytes_of raw)) else Err (NotAllowed at))
    go true l = ltb-true raw (2 ^ 63) l
    go false l = tt
small_groups at None = tt

pub small_bytes : (s : List ℕ) (at : ℕ) → Small (in_bytes at (number_at s at))
small_bytes s at = go (number_at s at) refl
  where
    go : (v : Option Number) → number_at s at ≡ v → Small (in_bytes at v)
    go (Some n) q = rw (ap value_of q) at (bound 9 (drop at s) at)
    go None q = tt

-- a word that fits 64 bits, in groups
pub word_groups : (at : ℕ) (f : Field) (x : ℤ) → SFits w64 x → in_groups at (raw_of f x) ≡ in_word at f x
word_groups at f x fits = go (signed_at f)
  where
    plain : (y : ℤ) → SFits w64 y → in_groups at (plain_of y) ≡ plainly at y
    plain (pos n) fits = rw (lt-ltb n (2 ^ 63) fits.sfits)
    plain (negsuc n) fits = refl

    go : (t : Bool) → in_groups at (if t then Some (stored_of x) else plain_of x) ≡ (if t then in_groups at (Some (stored_of x)) else plainly at x)
    go true = refl
    go false = plain x fits

-- ---- the loop

-- how far a walk has come
abbrev pub Within : (writing : Bool) → List ℕ → List ℤ → (k at : ℕ) → Type 0
Within true s ws k at = (k ≤ length ws) × (at ≤ 10 * k) × (k ≤ at)
Within false s ws k at = (k ≤ at) × (at ≤ length s)

-- what it has still to go
abbrev pub ahead : (writing : Bool) → List ℕ → List ℤ → (k at : ℕ) → ℕ
ahead writing s ws k at = if writing then length ws - k else length s - at

-- what is left of it
abbrev left : (writing : Bool) → List ℕ → List ℤ → ℕ → Field → ℕ → Ran
left writing s ws k f at = if writing then numbers_from (drop k ws) k f at else run_from (length s + 1 - k) s k f at

pub record Along (writing : Bool) (s : List ℕ) (ws : List ℤ) (first : Field) (words₀ words : List ℤ) (k : ℕ) (f : Field) (at : ℕ) : Type 0 where
  pub within : Within writing s ws k at
  pub long : length words ≡ length words₀
  pub ends : (walk_of writing s ws first).outcome ≡ (left writing s ws k f at).outcome
  pub stores : sets words₀ 0 (walk_of writing s ws first).words ≡ sets words k (left writing s ws k f at).words

pub along_start : (writing : Bool) (s : List ℕ) (ws : List ℤ) (first : Field) (words : List ℤ) → Along writing s ws first words words 0 first 0
along_start true s ws first words = record { within = (omega arith, omega arith, omega arith); long = refl; ends = refl; stores = refl }
along_start false s ws first words =
    let z : length s + 1 - 0 ≡ length s + 1 = omega arith in
    record { within = (omega arith, omega arith); long = refl; ends = rw z; stores = rw z }

left_move : (writing : Bool) (s : List ℕ) (ws : List ℤ) (k at : ℕ) (f : Field) → Within writing s ws k at
    → left writing s ws k f at ≡ on_move (walk_move writing s ws k at f) k (λ g next. left writing s ws (k + 1) g next)
left_move true s ws k at f w = rest_move s ws k at f
left_move false s ws k at f w =
    let l : length s + 1 - k - 1 ≡ length s + 1 - (k + 1) = omega arith in
    run_move (length s + 1 - k) s k f at (omega (arith, w.0, w.1)) ∙ rw (l, bytes_move s ws k at f)

pub record Onward (writing : Bool) (s : List ℕ) (ws : List ℤ) (k at n : ℕ) : Type 0 where
  pub within : Within writing s ws (k + 1) n
  pub less : ahead writing s ws (k + 1) n < ahead writing s ws k at
  pub few : k < n

onward : (writing : Bool) (s : List ℕ) (ws : List ℤ) (k at : ℕ) (f : Field) → Within writing s ws k at
    → {t : Taken} → walk_move writing s ws k at f ≡ Ok (Some t) → Onward writing s ws k at t.next
onward true s ws k at f w m =
    let p = word_next s ws k at f m in
    record { within = (omega (arith, p.0), omega (arith, w.1, p.1), omega (arith, w.2, p.2)); less = omega (arith, p.0); few = omega (arith, w.2, p.2) }
onward false s ws k at f w {t} m =
    let p = move_next s at f t w.1 (sym (bytes_move s ws k at f) ∙ m) in
    record { within = (omega (arith, w.0, p.0), p.1); less = omega (arith, p.0, p.1); few = omega (arith, w.0, p.0) }

pub along_low : {writing : Bool} {s : List ℕ} {ws : List ℤ} {first : Field} {words₀ words : List ℤ} {k : ℕ} {f : Field} {at : ℕ}
    → Along writing s ws first words₀ words k f at → writing ≡ true → at ≤ 10 * k
along_low {writing} {s} {ws} {k = k} {at = at} a = go writing a.within
  where
    go : (t : Bool) → Within t s ws k at → t ≡ true → at ≤ 10 * k
    go true w e = w.1
    go false w e = clash (cc)

module _ {writing : Bool} {s : List ℕ} {ws : List ℤ} {first : Field} {words₀ words : List ℤ} {k : ℕ} {f : Field} {at : ℕ}
    (a : Along writing s ws first words₀ words k f at) where
  pub along_next : {t : Taken} → walk_move writing s ws k at f ≡ Ok (Some t) → Onward writing s ws k at t.next
  along_next e = onward writing s ws k at f a.within e

  here : (m : Move) → walk_move writing s ws k at f ≡ m → left writing s ws k f at ≡ on_move m k (λ g next. left writing s ws (k + 1) g next)
  here m e = left_move writing s ws k at f a.within ∙ ap (λ (m : Move). on_move m k (λ g next. left writing s ws (k + 1) g next)) e

  pub along_go : (t : Taken) → walk_move writing s ws k at f ≡ Ok (Some t) → Along writing s ws first words₀ (set words k t.word) (k + 1) t.field t.next
  along_go t e =
      let q = here (Ok (Some t)) e in
      record {
        within = (along_next e).within;
        long = length-set words k t.word ∙ a.long;
        ends = a.ends ∙ ap (λ (r : Ran). r.outcome) q;
        stores = a.stores ∙ ap (λ (r : Ran). sets words k r.words) q ∙ ap (λ (j : ℕ). sets (set words k t.word) j (left writing s ws (k + 1) t.field t.next).words) (sym (add-one k));
      }

  -- the last move: nothing more is kept
  last : (m : Move) (o : Outcome) → on_move m k (λ g next. left writing s ws (k + 1) g next) ≡ stops o → walk_move writing s ws k at f ≡ m
      → (o ≡ (walk_of writing s ws first).outcome) × (words ≡ sets words₀ 0 (walk_of writing s ws first).words)
  last m o r e =
      let q = here m e ∙ r in
      (sym (a.ends ∙ ap (λ (r : Ran). r.outcome) q), sym (a.stores ∙ ap (λ (r : Ran). sets words k r.words) q))

  pub along_stop : walk_move writing s ws k at f ≡ Ok None → (Ok k ≡ (walk_of writing s ws first).outcome) × (words ≡ sets words₀ 0 (walk_of writing s ws first).words)
  along_stop e = last (Ok None) (Ok k) refl e

  pub along_refuse : (r : Refusal) → walk_move writing s ws k at f ≡ Err r
      → (Err r ≡ (walk_of writing s ws first).outcome) × (words ≡ sets words₀ 0 (walk_of writing s ws first).words)
  along_refuse r e = last (Err r) (Err r) refl e
