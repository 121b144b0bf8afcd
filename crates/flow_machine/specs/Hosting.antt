-- What the world around a process does for it, by what it shows: which ports have streams, and what can change in it.
use Rattle.std.specs.Prelude.{◌≡◌, ℕ, ℤ, List, []}
use Rattle.std.specs.declared.option.Option.{Option}
use Rattle.std.specs.declared.option.Option.TheVariants.{None, Some}
use Rattle.flow_trace.specs.declared.line.Line.{Line}
use Rattle.flow_draw.specs.Words.{scaled}
use Rattle.flow_numbered.specs.Numbered.{Numbered, thing, added, removed}
use Rattle.flow_meaning.specs.Dropping.{port_of}
use Rattle.flow_meaning.specs.Requests.{Request, Drew}
use Rattle.flow_meaning.specs.Burst.{Host}

-- the stream is no more that of a port
abbrev pub unheard_at : Option ℕ → Numbered ℕ → Numbered ℕ
unheard_at None ps = ps
unheard_at (Some port) ps = removed ps port

abbrev pub unheard : (cell : ℕ) → Numbered ℕ → Numbered ℕ
unheard k ps = unheard_at (port_of k ps) ps

-- A stands for the host, W for what can change in the world, `serves` for what the world does for a request, `shows` for
-- what the host shows, and `wrote` for the lines that came of it since.
module _ {A W : Type 0} (serves : Host W) (shows : A → Numbered ℕ → W → Type 0) (wrote : A → List Line → A → Type 0) where
  -- a request is served, with its lines
  abbrev pub Serves : Request → A → A → Type 0
  Serves r a b = (ps : Numbered ℕ) (w : W) → shows a ps w → wrote a (serves.serve r w).0 b × shows b ps (serves.serve r w).1

  -- the next drawn word gives one of so many numbers from the first on
  abbrev pub Draws : (lo : ℤ) (width : ℕ) → ℤ → A → A → Type 0
  Draws lo width n a b = Serves (Drew width) a b × ((ps : Numbered ℕ) (w : W) → shows a ps w → n ≡ scaled lo width (serves.supply w).word)

  -- lines are written, and nothing else changes
  abbrev pub Writes : List Line → A → A → Type 0
  Writes ls a b = wrote a ls b × ((ps : Numbered ℕ) (w : W) → shows a ps w → shows b ps w)

  -- a port and a stream that were none until then belong together
  abbrev pub Listens : (port cell : ℕ) → A → A → Type 0
  Listens port k a b =
      wrote a [] b
      × ((ps : Numbered ℕ) (w : W) → shows a ps w → thing ps port ≡ None → port_of k ps ≡ None → shows b (added ps port k) w)

  -- the lines of a request are written, and no more is said
  abbrev pub LinesOf : Request → A → A → Type 0
  LinesOf r a b = (ps : Numbered ℕ) (w : W) → shows a ps w → wrote a (serves.serve r w).0 b

  -- and then they don't any more
  abbrev pub Unlistens : (cell : ℕ) → A → A → Type 0
  Unlistens k a b = wrote a [] b × ((ps : Numbered ℕ) (w : W) → shows a ps w → shows b (unheard k ps) w)
