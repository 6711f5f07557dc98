-- Laws of outcomes, for the functions that meet the contracts and for their callers. A contract is an equation with an outcome by the
-- number R that the call's questions give: accepted where R is 0, else refused by R.
--   number_by                 the number of an outcome is the one that the questions give
--   by_accepted, by_refused   how a contract is met
--   by_zero, by_other         what a contract says where R is 0, and where it is not
--   by_cases                  what it says of any R
--   accepted_is, refused_is   what it says where the result has the number 0, which is no refusal, and where it has another
--   value_refused, value_answered       a contract that answers a value, met
--   listing_refused, listing_answered   a contract that lists into a lent table, met
--   asking_is                 asking by the number that its questions give
use Rattle.std.specs.Prelude.{◌≡◌, ◌⊎◌}
use Rattle.lists.specs.{Kit.{refl, sym, ap, ◌∙◌, inl, inr, Bool, List, ℕ, zero, suc, pos, length, arith}, Lists.{overwrite}}
use Rattle.mesh.specs.{Levels.{changed, step_of}, Tables.{Tables, graph_in}, Sound.{sound}}
use Rattle.calls.specs.{Questions.{by_number, lengths_of}, Chains.{link_refusal}, declared.Reply.{Reply}}
use Rattle.calls.specs.Outcomes.{reply, value, Linked, listing, value_outcome, listing_outcome, link_outcome, ask_outcome}

-- ---- by the number

pub number_by :
    {A : Type 0} (number : A → ℕ) (R : ℕ) (a : A) (r : ℕ → A) → number a ≡ 0 → ((q : ℕ) → number (r q) ≡ q) → number (by_number R a r) ≡ R
unfolding by_number
number_by number zero a r e f = e
number_by number (suc q) a r e f = f (suc q)

-- how a contract is met
pub by_accepted : {A : Type 0} {o a : A} (R : ℕ) (r : ℕ → A) → R ≡ 0 → o ≡ a → o ≡ by_number R a r
unfolding by_number
by_accepted R r e d = rw e d

pub by_refused : {A : Type 0} {o : A} (R : ℕ) (a : A) (r : ℕ → A) → (R ≡ 0 → ⊥) → o ≡ r R → o ≡ by_number R a r
unfolding by_number
by_refused zero a r h d = absurd (h refl)
by_refused (suc q) a r h d = d

-- what a contract says
pub by_zero : {A : Type 0} {o : A} (R : ℕ) (a : A) (r : ℕ → A) → R ≡ 0 → o ≡ by_number R a r → o ≡ a
unfolding by_number
by_zero R a r e d = rw e at d

pub by_other : {A : Type 0} {o : A} (R : ℕ) (a : A) (r : ℕ → A) → (R ≡ 0 → ⊥) → o ≡ by_number R a r → o ≡ r R
unfolding by_number
by_other zero a r h d = absurd (h refl)
by_other (suc q) a r h d = d

pub by_cases : {A : Type 0} {o : A} (R : ℕ) (a : A) (r : ℕ → A) → o ≡ by_number R a r → ((R ≡ 0) × (o ≡ a)) ⊎ ((R ≡ 0 → ⊥) × (o ≡ r R))
unfolding by_number
by_cases zero a r d = inl (refl, d)
by_cases (suc q) a r d = inr (λ e. omega arith, d)

pub accepted_is :
    {A : Type 0} (number : A → ℕ) (o : A) (R : ℕ) (a : A) (r : ℕ → A) → ((q : ℕ) → number (r q) ≡ q) → o ≡ by_number R a r →
    number o ≡ 0 → (R ≡ 0) × (o ≡ a)
unfolding by_number
accepted_is number o zero a r f d z = (refl, d)
accepted_is number o (suc q) a r f d z = absurd (omega (arith, sym (f (suc q)) ∙ sym (ap number d) ∙ z))

pub refused_is :
    {A : Type 0} (number : A → ℕ) (o : A) (R : ℕ) (a : A) (r : ℕ → A) → number a ≡ 0 → ((q : ℕ) → number (r q) ≡ q) →
    o ≡ by_number R a r → (number o ≡ 0 → ⊥) → o ≡ r (number o)
unfolding by_number
refused_is number o zero a r e f d h = absurd (h (ap number d ∙ e))
refused_is number o (suc q) a r e f d h = d ∙ ap r (sym (ap number d ∙ f (suc q)))

-- ---- any value

pub value_refused : (R x q : ℕ) → q ≡ R → (q ≡ 0 → ⊥) → value q 0 ≡ value_outcome R x
unfolding value_outcome
value_refused R x q e h = by_refused R _ _ (λ z. h (e ∙ z)) (rw e)

pub value_answered : (R x y : ℕ) → R ≡ 0 → y ≡ x → value 0 y ≡ value_outcome R x
unfolding value_outcome
value_answered R x y e h = by_accepted R _ e (rw h)

-- ---- any listing

pub listing_refused : (R x : ℕ) (new old : List ℕ) (q : ℕ) → q ≡ R → (q ≡ 0 → ⊥) → listing (value q 0) old ≡ listing_outcome R x new old
unfolding listing_outcome
listing_refused R x new old q e h = by_refused R _ _ (λ z. h (e ∙ z)) (rw e)

pub listing_answered :
    (R x : ℕ) (new old : List ℕ) (y : ℕ) (now : List ℕ) → R ≡ 0 → y ≡ x → now ≡ overwrite new old →
    listing (value 0 y) now ≡ listing_outcome R x new old
unfolding listing_outcome
listing_answered R x new old y now e h l = by_accepted R _ e (rw (h, l))

-- ---- asking, by its own questions

pub asking_is :
    (up : Bool) (n a b : ℕ) (t : Tables) (w : List ℕ) →
    let g = graph_in n t.links in
    let cs = changed up a b g in
    ask_outcome up n a b t w
    ≡ by_number (link_refusal up n a b (lengths_of t) (length w) (sound n t) g)
    (listing (reply 0 (step_of up cs) (length cs)) (overwrite cs w)) (λ q. listing (reply q (pos 0) 0) w)
unfolding ask_outcome link_outcome sound by_number
asking_is up n a b t w = go (link_refusal up n a b (lengths_of t) (length w) (sound n t) (graph_in n t.links)) _ _
  where
    go : (R : ℕ) (x : Linked Reply) (y : ℕ → Linked Reply) → let o = by_number R x y in
        listing o.reply o.lent ≡ by_number R (listing x.reply x.lent) (λ q. listing (y q).reply (y q).lent)
    go zero x y = refl
    go (suc q) x y = refl
