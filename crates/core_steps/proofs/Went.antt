-- What a step of the slot at a place leaves, of whatever path that slot is.
use Rattle.std.proofs.Common.{◌≡◌, ℕ, ◌<◌, List, Option, length, map, sym, subst}
use Rattle.std.specs.Option.{option_map}
use Rattle.priml_syntax.specs.Values.{Outcome'}
use Rattle.core_steps.specs.declared.slot.Slot.{Slot}
use Rattle.core_steps.specs.declared.local.Made.{Made as TheMade}
use Rattle.core_steps.specs.Inside.Locals.{read_boxed}
use Rattle.core_steps.specs.Steps.{Job}
use Rattle.core_steps.specs.Configs.{read_slot, SlotsRise, AreSlots, Advances}
use Rattle.core_steps.specs.Inside.Configs.{with_slot, SlotNeeds, StandsAt, StepsAt}
use Rattle.core_steps.proofs.Searched.{path_there}
use Rattle.core_steps.proofs.Slots.{slots_rise}
use Rattle.core_steps.proofs.Advanced.{mid_rises, new_slots, advances}

module _ (job : Job) (xs ys mid : List Slot) (at : ℕ) (b : Option (List ℕ)) (w : Option Outcome') (m : TheMade) (config : AreSlots job (map read_slot xs)) (there : at < length xs)
    (told : (p : List ℕ) → StandsAt xs p at → SlotNeeds job (map read_slot xs) p b w) (same : ys ≡ xs) (goes : (p : List ℕ) → StandsAt ys p at → StepsAt job (map read_slot ys) p w m (map read_slot mid)) where
  steps : (p : List ℕ) → StandsAt xs p at → StepsAt job (map read_slot xs) p w m (map read_slot mid)
  steps p stands = subst (λ zs. StepsAt job (map read_slot zs) p w m (map read_slot mid)) same (goes p (subst (λ zs. StandsAt zs p at) (sym same) stands))

  own : (p : List ℕ) × StandsAt xs p at
  own = path_there xs at (slots_rise job (map read_slot xs) config) there

  pub went_rises : SlotsRise (map read_slot mid)
  went_rises = let p = own in mid_rises job (map read_slot xs) config p.0 b w (told p.0 p.1) m (map read_slot mid) (steps p.0 p.1)

  pub went_slots : AreSlots job (with_slot (option_map read_boxed m.child) (map read_slot mid))
  went_slots = let p = own in new_slots job (map read_slot xs) config p.0 b w (told p.0 p.1) m (map read_slot mid) (steps p.0 p.1)

  pub went_on : (p : List ℕ) → StandsAt xs p at → Advances job (map read_slot xs) p m.event (with_slot (option_map read_boxed m.child) (map read_slot mid))
  went_on p stands = advances job (map read_slot xs) config p b w (told p stands) m (map read_slot mid) (steps p stands)
