-- The rest of an actor is part of its text: the waits in it, numbered from where each statement stands, are those of the text.
use Rattle.std.specs.Prelude.{◌≡◌, ℕ, suc, List, ◌++◌, length}
use Rattle.std.specs.List.{AllByRecursion}
use Rattle.flow_base.specs.declared.place.Place.{Place}
use Rattle.flow_tree.specs.Body.{Body}
use Rattle.flow_staterule.specs.StateRule.{wait_places}
use Rattle.flow_typing_laws.specs.ControlFlow.Laws.{HasSimpleParts}
use Rattle.flow_meaning.specs.Items.{Site, Loop, Item, Do, Leave, Round, Check, Made, Handler, Over, Actor}

-- places that stand together among all of them, the first of them as that of the wait of a number, from 1
pub record PartOf (all : List Place) (group : ℕ) (part : List Place) : Type 0 where
  pub front : List Place
  pub behind : List Place
  pub are : all ≡ front ++ (part ++ behind)
  pub first : group ≡ suc (length front)

module _ (all : List Place) where
  -- a body at a place of the text
  pub record BodyWithin (s : Site) (b : Body) : Type 0 where
    pub waits : PartOf all s.spot.group (wait_places b)
    pub parts : HasSimpleParts b

  abbrev pub LoopWithin : Loop → Type 0
  LoopWithin l = BodyWithin l.site l.inner × BodyWithin l.site l.step

  abbrev pub ItemWithin : Item → Type 0
  ItemWithin (Do s b) = BodyWithin s b
  ItemWithin Leave = Unit {0}
  ItemWithin (Round l) = LoopWithin l
  ItemWithin (Check l) = LoopWithin l
  ItemWithin (Made l) = LoopWithin l
  ItemWithin (Handler x s h) = BodyWithin s h
  ItemWithin Over = Unit {0}

  abbrev pub RestWithin : List Item → Type 0
  RestWithin items = AllByRecursion ItemWithin items

  abbrev pub ActorWithin : Actor → Type 0
  ActorWithin a = RestWithin a.rest
