-- The arguments of `life-draw`, and the picture that they name.
-- The kit's `clap` defines commands, the arguments that they accept, and how these are read. Only the names of the
-- subcommands are defined here.
use Rattle.std.specs.Prelude.{true, if◌then◌else◌, List, Option, None, Some, option_and_then, codes, bytes_eq}
use Rattle.clap.specs.Words.{App, Row, Text, new_app, with_rule, with_subcommand}
use Rattle.clap.specs.Simple.{on_top}
use Rattle.life_words.specs.Words.{number_rule, number_at, with_version, matches_in, if_both, by_subcommand}
use Rattle.life_pictures.specs.declared.draw_job.Picture.{Picture}
use Rattle.life_pictures.specs.declared.draw_job.Picture.TheVariants as picture

-- `text`
abbrev pub text_app : App
text_app = new_app (codes "text")

-- `svg`
abbrev pub svg_app : App
svg_app = new_app (codes "svg")

-- `animation FIRST LAST`
abbrev pub animation_app : App
animation_app =
    with_rule (with_rule (new_app (codes "animation")) (number_rule (codes "FIRST"))) (number_rule (codes "LAST"))

-- `life-draw`, which requires a subcommand
abbrev pub bare_draw : App
bare_draw = on_top (λ top. record top { subcommand_required = true }) (with_version (new_app (codes "life-draw")))

-- the complete command, with its subcommands in the order in which help lists them
abbrev pub draw : App
draw = with_subcommand (with_subcommand (with_subcommand bare_draw text_app.top) svg_app.top) animation_app.top

-- the picture that a subcommand with this name and these matches requests
abbrev pub picture_named : Text → List Row → Option Picture
picture_named name rows =
    if bytes_eq name (codes "text") then Some picture.Text
    else (if bytes_eq name (codes "svg") then Some picture.Svg
    else (if bytes_eq name (codes "animation")
    then if_both picture.Animation (number_at (codes "FIRST") rows) (number_at (codes "LAST") rows)
    else None))

-- the picture that the arguments name, the program's name first
unfoldable pub words_picture : List Text → Option Picture
words_picture words = option_and_then (λ found. by_subcommand picture_named found.1) (matches_in draw words)
