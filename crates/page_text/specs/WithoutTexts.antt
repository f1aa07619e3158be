-- Pages without the texts that stand on them.
use Rattle.std.specs.Prelude.{[], map}
use Rattle.page_text.specs.declared.page_line.PageLine.{PageLine}
use Rattle.page_text.specs.declared.page_line.PageLine.TheVariants.{Para, Link, Form}

-- a line whose texts and addresses are empty, with as many fields
abbrev pub without_texts : PageLine → PageLine
without_texts (Para text) = Para []
without_texts (Link address text) = Link [] []
without_texts (Form address token fields) = Form [] [] (map (λ name. []) fields)
