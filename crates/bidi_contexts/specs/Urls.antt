-- URLs: how a string is parsed, how a URL is serialized, and its origin. After the URL Standard, "URL parsing", "URL serializing" and "Origin".
use Rattle.std.specs.Prelude.{ℕ, List, [], codes, Option, None, if◌then◌else◌}
use Rattle.std.specs.Result.{result_ok}
use Rattle.url.specs.Parts.{Parts, serialize}
use Rattle.url.specs.Parser.{parse_url}
use Rattle.url.specs.Origin.{is_http, origin_of, ascii_serialization}

-- The URL of a string, if the string is an absolute URL.
abbrev pub parsed : List ℕ → Option Parts
parsed text = result_ok (parse_url None text)

-- The serialized URL.
-- example: `http://a.test` is shown as `http://a.test/`
abbrev pub url_text : Parts → List ℕ
url_text = serialize

-- The serialized origin of an http or https URL; any other URL has the origin `null`, which is this project's own.
-- example: `blob:http://a.test/1` has `null`
abbrev pub origin_text : Parts → List ℕ
origin_text url = if is_http url.scheme then ascii_serialization (origin_of url) else codes "null"

-- `about:blank`, the URL of each new top-level context.
abbrev pub about_blank : Parts
about_blank = record {
  scheme = codes "about";
  username = [];
  password = [];
  host = None;
  port = None;
  path = codes "blank";
  query = None;
  fragment = None;
}
