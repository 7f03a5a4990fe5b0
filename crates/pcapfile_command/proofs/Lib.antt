mod WordNames
