-- A plan with its questions asked, on plain values: refused, made from what, made.
use Rattle.std.specs.Prelude.{◌≡◌, ◌≤◌}
use Rattle.lists.specs.Kit.{refl, sym, subst, ◌∙◌, Bool, List, ℕ, length}
use Rattle.mesh.specs.{Limits.{max_radios, max_neighbours}, Graph.{Graph}, Tables.{Tables, graph_in}, Sound.{sound}}
use Rattle.calls.specs.Questions.{lengths_of, answer_length, ends_refusal}
use Rattle.soundness.specs.Checks.{Asked}
use Rattle.calls.specs.Chains.{link_refusal}
use Rattle.plan.specs.{Plans.{Ready, Planned, plan_of}, Asked.{PlanContract}}
use Rattle.plan.proofs.Asking.{asked_no, asked_order, asked_ends, asked_ready}

-- ---- the plan: q is the number of questions 1 to 3, r that of 4 to 7

module _ (up : Bool) (n a b : ℕ) (t : Tables) (w : ℕ) (before ps hs : List ℕ) (q : ℕ) (asked : Asked n t (answer_length n w) ps hs q) where
  refused : (m : ℕ) → m ≡ link_refusal up n a b (lengths_of t) w (sound n t) (graph_in n t.links) → (m ≡ 0 → ⊥)
      → PlanContract up n a b t w before m 0 0 0 before
  refused m e h = record { number = e; planned = λ z. absurd (h z); refused = λ k. (refl, refl, refl, refl) }

  pub plan_refused : (q ≡ 0 → ⊥) → PlanContract up n a b t w before q 0 0 0 before
  plan_refused h = refused q (asked_no up n a b t w ps hs q asked h) h

  module _ (zero : q ≡ 0) (r : ℕ) (ends : r ≡ ends_refusal max_neighbours up n a b (graph_in n t.links)) where
    number_is : r ≡ link_refusal up n a b (lengths_of t) w (sound n t) (graph_in n t.links)
    number_is = ends ∙ asked_ends up n a b t w ps hs q asked zero

    pub plan_refused_ends : (r ≡ 0 → ⊥) → PlanContract up n a b t w before r 0 0 0 before
    plan_refused_ends h = refused r number_is h

    module _ (yes : r ≡ 0) where
      -- the order is as long as the site has radios
      pub plan_ready : max_radios ≤ length ps → max_radios ≤ length hs → Ready up (length t.order) a b t ps hs
      plan_ready lp lh =
          subst (λ (k : ℕ). Ready up k a b t ps hs) (sym (asked_order up n a b t w ps hs q asked zero))
          (asked_ready up n a b t w ps hs q asked zero lp lh (sym ends ∙ yes))

      pub plan_made : (start size taken : ℕ) (stretch : List ℕ) → Planned up a b (graph_in (length t.order) t.links) t.order (plan_of start size taken)
          stretch
          → PlanContract up n a b t w before r start size taken stretch
      plan_made start size taken stretch d = record {
        number = number_is;
        planned = λ z. subst (λ (k : ℕ). Planned up a b (graph_in k t.links) t.order (plan_of start size taken) stretch)
            (asked_order up n a b t w ps hs q asked zero) d;
        refused = λ h. absurd (h yes);
      }

-- ---- going up or down

pub ready_as : {up u : Bool} {n a b : ℕ} {t : Tables} {places not_lower : List ℕ} → up ≡ u → Ready up n a b t places not_lower → Ready u n a b t places
    not_lower
ready_as {n = n} {a = a} {b = b} {t = t} {places = places} {not_lower = not_lower} e r = subst (λ (w : Bool). Ready w n a b t places not_lower) e r

pub planned_for : {up u : Bool} {a b : ℕ} {g : Graph} {order : List ℕ} {start size taken : ℕ} {stretch : List ℕ} → up ≡ u
    → Planned u a b g order (plan_of start size taken) stretch → Planned up a b g order (plan_of start size taken) stretch
planned_for {a = a} {b = b} {g = g} {order = order} {start = start} {size = size} {taken = taken} {stretch = stretch} e p =
    subst (λ (w : Bool). Planned w a b g order (plan_of start size taken) stretch) (sym e) p
